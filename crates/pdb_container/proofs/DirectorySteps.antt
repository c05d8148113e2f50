-- The directory in two steps: its pages by the list of them, and its numbers by its pages.
use Rattle.std.proofs.Common.{◌≡◌, ℕ, ◌*◌, ◌⊎◌, inl, inr, List, Result, Ok, Err, refl}
use Rattle.std.specs.Int.{div_ceil}
use Rattle.pdb_container.specs.declared.error.Error.{Error}
use Rattle.pdb_container.specs.Fault.{Fault, fault_of, ◌>>=◌, IsOutside}
use Rattle.pdb_container.specs.Container.{Layout, words, pages_in, directory_of}
use Rattle.pdb_container.specs.Places.{bytes_at, page_places}

abbrev pages_read : Layout → List ℕ → Result (List ℕ) Fault
pages_read h file = bytes_at file (page_places h.page_size h.list_pages (4 * div_ceil h.directory_size h.page_size)) >>= λ list. pages_in h.pages_used (div_ceil h.directory_size h.page_size) (words list)

abbrev words_read : Layout → List ℕ → List ℕ → Result (List ℕ) Fault
words_read h file pages = bytes_at file (page_places h.page_size pages h.directory_size) >>= λ bytes. Ok (words bytes)

regroup : {A B C : Type 0} (r : Result A Fault) (f : A → Result B Fault) (g : B → Result C Fault) → (r >>= λ x. f x >>= g) ≡ (r >>= f >>= g)
regroup (Ok x) f g = refl
regroup (Err e) f g = refl

in_steps : (h : Layout) (file : List ℕ) → directory_of h file ≡ (pages_read h file >>= words_read h file)
unfolding directory_of
in_steps h file = regroup (bytes_at file (page_places h.page_size h.list_pages (4 * div_ceil h.directory_size h.page_size))) (λ list. pages_in h.pages_used (div_ceil h.directory_size h.page_size) (words list)) (words_read h file)

-- pages that are there
pub directory_goes_on : (h : Layout) (file pages : List ℕ) → pages_read h file ≡ Ok pages → directory_of h file ≡ words_read h file pages
directory_goes_on h file pages read = rw (in_steps h file, read) refl

-- pages that are refused
pub directory_stops : (h : Layout) (file : List ℕ) (e : Error) (failed : Type 0) → (IsOutside e failed ⊎ (pages_read h file ≡ Err (fault_of e))) → IsOutside e failed ⊎ (directory_of h file ≡ Err (fault_of e))
directory_stops h file e failed (inl outside) = inl outside
directory_stops h file e failed (inr read) = inr (rw (in_steps h file, read) refl)
