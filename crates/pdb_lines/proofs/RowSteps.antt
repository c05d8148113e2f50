-- Rows after one more mark.
use Rattle.std.proofs.Common.{◌≡◌, ℕ, min, Option, None, Some, refl, sym, ap, ◌∙◌, arith}
use Rattle.std.specs.Prelude.{option_map}
use Rattle.pdb_container.specs.Fault.{Fault}
use Rattle.std.proofs.Common.{Result, Ok, Err}
use Rattle.pdb_container.specs.declared.error.Error.{Error}
use Rattle.pdb_container.specs.Fault.{fault_of}
use Rattle.pdb_container.specs.Listing.{Listing, ending, before, Advances}
use Rattle.pdb_subsections.specs.declared.line_info.LineInfo.{LineInfo}
use Rattle.pdb_lines.specs.declared.line_mark.LineMark.{LineMark}
use Rattle.pdb_lines.specs.declared.line_mark.LineMark.TheVariants as marks
use Rattle.pdb_lines.specs.LineRows.{distance_to, closer, nearest, with_length, row_before}
use Rattle.pdb_lines.specs.LineRows.{with_row, rows_of, rows_with_begun}

closer_assoc : (a b c : Option ℕ) → closer a (closer b c) ≡ closer (closer a b) c
closer_assoc None b c = refl
closer_assoc (Some a) None c = refl
closer_assoc (Some a) (Some b) None = refl
closer_assoc (Some a) (Some b) (Some c) = let e : min a (min b c) ≡ min (min a b) c =
    omega arith in ap Some e

-- the row that a mark follows
abbrev up_to : ℕ → ℕ → LineInfo → LineInfo
up_to section place row = with_length row (closer row.length (distance_to row.offset section place))

-- what an entry's mark does to a row that has begun
pub behind_entry : (row begun : Option LineInfo) (section place : ℕ) (others : Listing LineMark)
    → rows_with_begun row (before (marks.Entry section place begun) others)
    ≡ with_row (option_map (up_to section place) row) (rows_with_begun begun others)
behind_entry None begun section place others = refl
behind_entry (Some row) begun section place others = refl

decided_end : (row : LineInfo) (section place : ℕ) (others : Listing LineMark)
    → row_before (Some row) (before (marks.End section place) others)
    ≡ row_before (Some (up_to section place row)) others
decided_end row section place others =
    rw (closer_assoc row.length (distance_to row.offset section place)
    (nearest row.offset others.items)) refl

-- what a subsection's end does to a row that has begun
pub behind_end : (row : Option LineInfo) (section place : ℕ) (others : Listing LineMark)
    → rows_with_begun row (before (marks.End section place) others)
    ≡ rows_with_begun (option_map (up_to section place) row) others
behind_end None section place others = refl
behind_end (Some row) section place others =
    ap (λ (r : Option LineInfo). with_row r (rows_of others)) (decided_end row section place others)

-- ---- at the end

no_further : (length : Option ℕ) → closer length None ≡ length
no_further None = refl
no_further (Some a) = refl

-- a row is done where the marks end well
pub last_row : (row : Option LineInfo) → rows_with_begun row (ending None)
    ≡ with_row row (ending None)
last_row None = refl
last_row (Some row) = rw (no_further row.length) refl

-- and isn't where they end badly
pub lost_row : (row : Option LineInfo) (e : Fault)
    → rows_with_begun row (ending (Some e)) ≡ ending (Some e)
lost_row None e = refl
lost_row (Some row) e = refl

-- ---- an iterator that has ended

-- an iterator that has ended returns nothing more
pub ended_stays : {X A : Type 0} (view : X → A) (old : Listing A) (result : Result (Option X) Error)
    (new : Listing A) → Advances view old result new → old ≡ ending None
    → (result ≡ Ok None) × (new ≡ ending None)
ended_stays {A = A} view old (Ok (Some x)) new step end =
    let e : before (view x) new ≡ ending None = sym step ∙ end in
    let n = ap (λ (l : Listing A). l.items) e in
    absurd cc
ended_stays view old (Ok None) new step end = (refl, step.1)
ended_stays {A = A} view old (Err e) new step end =
    let wrong : ending {A = A} (Some (fault_of e)) ≡ ending None = sym step.1 ∙ end in
    let fault = ap (λ (l : Listing A). l.fault) wrong in
    absurd cc
