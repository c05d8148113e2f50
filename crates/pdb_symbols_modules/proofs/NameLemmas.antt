-- Names of streams, as a loop reads them and as one is found.
use Rattle.std.proofs.Common.{◌≡◌, ℕ, ◌-◌, ◌+◌, ◌<◌, ◌≤◌, List, [], ◌∷◌, ◌++◌, Result, Ok, Err}
use Rattle.std.proofs.Common.{refl, sym, ap, ◌∙◌, Bool, true, false, cond}
use Rattle.std.specs.Prelude.{map, None, Some, option_map}
use Rattle.std.specs.List.{find}
use Rattle.std.proofs.lemmas.List.{map-append}
use Rattle.pdb_container.specs.Fault.{Fault, StreamNameNotFound}
use Rattle.pdb_container.specs.RecordFields.{many_at}
use Rattle.pdb_container.proofs.Many.{many_front, many_start, many_more, many_fail, many_done}
use Rattle.pdb_symbols_modules.specs.Information.{stream_name_at, is_named, number_in, number_of}
use Rattle.pdb_symbols_modules.specs.Information as information
use Rattle.pdb_symbols_modules.specs.NameBlock.{stream_name_seen}
use Rattle.pdb_symbols_modules.specs.declared.information.StreamName.{StreamName}

abbrev Total : Type 0
Total = Result (List information.StreamName × List ℕ) Fault

-- what was read before, as it is seen, and what is still read
abbrev pub names_front : List StreamName → Total → Total
names_front front read = many_front (map stream_name_seen front) read

-- no name before all of them
pub names_start : (names : List ℕ) (count : ℕ) (bytes : List ℕ)
    → names_front [] (many_at (stream_name_at names) (count - 0) bytes)
    ≡ many_at (stream_name_at names) count bytes
names_start names count bytes = many_start (stream_name_at names) count bytes

-- a name that is refused refuses all
pub names_fail : (names : List ℕ) (front : List StreamName) (count i : ℕ) (bytes : List ℕ)
    (e : Fault) (total : Total) → i < count → stream_name_at names bytes ≡ Err e
    → names_front front (many_at (stream_name_at names) (count - i) bytes) ≡ total → total ≡ Err e
names_fail names front count i bytes e total lt read so_far =
    many_fail (stream_name_at names) (map stream_name_seen front) count i bytes e total
    lt read so_far

-- as many names as were asked for
pub names_done : (names : List ℕ) (front : List StreamName) (count i : ℕ) (bytes : List ℕ)
    (total : Total) → count ≤ i
    → names_front front (many_at (stream_name_at names) (count - i) bytes) ≡ total
    → total ≡ Ok (map stream_name_seen front, bytes)
names_done names front count i bytes total past so_far =
    many_done (stream_name_at names) (map stream_name_seen front) count i bytes total past so_far

-- one more name read, and one fewer to come
pub names_more : (names : List ℕ) (front : List StreamName) (count i : ℕ) (bytes rest : List ℕ)
    (x : StreamName) (total : Total) → i < count
    → stream_name_at names bytes ≡ Ok (stream_name_seen x, rest)
    → names_front front (many_at (stream_name_at names) (count - i) bytes) ≡ total
    → names_front (front ++ x ∷ []) (many_at (stream_name_at names) (count - (i + 1)) rest) ≡ total
names_more names front count i bytes rest x total lt read so_far =
    rw (map-append stream_name_seen front (x ∷ []))
    (many_more (stream_name_at names) (map stream_name_seen front) count i bytes rest
    (stream_name_seen x) total lt read so_far)

pub find_seen : (p : information.StreamName → Bool) (entries : List StreamName)
    → option_map stream_name_seen (find (λ e. p (stream_name_seen e)) entries)
    ≡ find p (map stream_name_seen entries)
find_seen p [] = refl
find_seen p (e ∷ entries) =
    elim (p (stream_name_seen e))
    as (λ b. option_map stream_name_seen
    (cond b (Some e) (find (λ x. p (stream_name_seen x)) entries))
    ≡ cond b (Some (stream_name_seen e)) (find p (map stream_name_seen entries)))
    [ true ↦ refl | false ↦ find_seen p entries ]

-- where no entry has the name, no stream has
pub none_named : (name : List ℕ) (entries : List StreamName)
    → find (λ e. is_named name (stream_name_seen e)) entries ≡ None
    → number_of name (map stream_name_seen entries) ≡ Err StreamNameNotFound
unfolding number_of
none_named name entries h = let e : find (is_named name) (map stream_name_seen entries) ≡ None =
    sym (find_seen (is_named name) entries) ∙ ap (option_map stream_name_seen) h in rw e refl

-- where an entry has the name, its stream is the one
pub some_named : (name : List ℕ) (entries : List StreamName) (x : StreamName)
    → find (λ e. is_named name (stream_name_seen e)) entries ≡ Some x
    → number_of name (map stream_name_seen entries) ≡ number_in (Some (stream_name_seen x))
unfolding number_of
some_named name entries x h = let e : find (is_named name) (map stream_name_seen entries)
    ≡ Some (stream_name_seen x) = sym (find_seen (is_named name) entries)
    ∙ ap (option_map stream_name_seen) h in rw e refl
