-- The inlined calls of frames, and the function's own, by where the list is split.
use Rattle.std.proofs.Common.{◌≡◌, ℕ, ◌+◌, ◌-◌, List, [], ◌∷◌, ◌++◌, length, take, drop, map, sym, ap, ◌∙◌, arith, refl, append_assoc}
use Rattle.std.proofs.Math.Seq.{take-append_seam, drop-append_seam}
use Rattle.pdb_owners.specs.Frames.{Frame}
use Rattle.pdb_llvm_protocol.specs.Reported.{calls_of, own_of}

-- the calls are what stands before the last frame, and the last is the function's own
pub parts_of : (frames calls : List Frame) (own : Frame) → frames ≡ calls ++ own ∷ []
    → length calls + 1 ≡ length frames → (calls_of frames ≡ calls) × (own_of frames ≡ own ∷ [])
parts_of frames calls own split count =
    let before : length frames - 1 ≡ length calls = omega (arith, count) in (
      ap (λ n. take n frames) before ∙ ap (take (length calls)) split
          ∙ take-append_seam calls (own ∷ []),
      ap (λ n. drop n frames) before ∙ ap (drop (length calls)) split
          ∙ drop-append_seam calls (own ∷ []),
    )
