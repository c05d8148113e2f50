-- A file of which one stream was read is open, and the faults of its streams are of four kinds.
use Rattle.std.proofs.Common.{◌≡◌, ℕ, ◌+◌, zero, suc, List, [], ◌∷◌, Result, Ok, Err, refl, take, drop, length}
use Rattle.std.specs.Prelude.{Option, None, Some, Bool, true, false, if◌then◌else◌, map, option_map, nat_lt, nat_le, ◌&&◌, ◌==◌, slice_index}
use Rattle.std.specs.List.{list_all, sum_by}
use Rattle.std.specs.declared.io.ErrorKind.TheVariants as eof
use Rattle.pdb_container.specs.Container.{Layout, layout_of, words, pages_in, directory_of, stream_pages_in, absent, page_count, stream_in, stream}
use Rattle.pdb_container.specs.Fault.{Fault, ◌>>=◌, guard, refuse, StreamNotFound, PageReferenceOutOfRange, IoError, UnexpectedEof}
use Rattle.pdb_container.specs.Places.{bytes_at}
use Rattle.pdb_loading.specs.ModuleInfos.{IsStreamFault, FailsAsStream}
use Rattle.pdb_symbols_modules.specs.ModuleStream.{ModuleStream}
use Rattle.pdb_symbols_modules.specs.Dbi.{Dbi}
use Rattle.pdb_symbols_modules.specs.Modules.{Module}
use Rattle.pdb_symbols_modules.specs.DatabaseCalls.{debug_information, module_info}
use Rattle.pdb_symbols_modules.specs.Shared.{shared, info_in, module_stream}
use Rattle.pdb_symbols_modules.specs.Streams.{streams, fault_in, if_named}

-- ---- readings in turn

behind : {A B : Type 0} (r : Result A Fault) (f : A → Result B Fault) → FailsAsStream r → ((x : A) → FailsAsStream (f x)) → FailsAsStream (r >>= f)
behind (Ok x) f h next = next x
behind (Err e) f h next = h

guarded : (holds : Bool) (e : Fault) → IsStreamFault e → FailsAsStream (guard holds e)
guarded true e h = tt
guarded false e h = h

refused : (wrong : Bool) (e : Fault) → IsStreamFault e → FailsAsStream (refuse wrong e)
refused true e h = h
refused false e h = tt

-- ---- a container that is open

bytes_fail : (file places : List ℕ) → FailsAsStream (bytes_at file places)
unfolding bytes_at
bytes_fail file places = elim (list_all (λ at. nat_lt at (length file)) places) as (λ b. FailsAsStream (if b then Ok (map (λ at. slice_index file at) places) else Err (IoError eof.UnexpectedEof))) [ true ↦ tt | false ↦ tt ]

pages_fail : (used count : ℕ) (numbers : List ℕ) → FailsAsStream (pages_in used count numbers)
pages_fail used zero numbers = tt
pages_fail used (suc n) [] = tt
pages_fail used (suc n) (page ∷ numbers) =
    behind (guard (nat_le 1 page && nat_le page used) (PageReferenceOutOfRange page)) _ (guarded (nat_le 1 page && nat_le page used) (PageReferenceOutOfRange page) tt)
    (λ u. behind (pages_in used n numbers) (λ others. Ok (page ∷ others)) (pages_fail used n numbers) (λ others. tt))

directory_fails : (h : Layout) (file : List ℕ) → FailsAsStream (directory_of h file)
unfolding directory_of
directory_fails h file =
    behind (bytes_at file _) _ (bytes_fail file _)
    (λ list. behind (pages_in h.pages_used _ (words list)) _ (pages_fail h.pages_used _ (words list))
    (λ pages. behind (bytes_at file _) (λ bytes. Ok (words bytes)) (bytes_fail file _) (λ bytes. tt)))

place_fails : (page_size used n : ℕ) (numbers : List ℕ) → FailsAsStream (stream_pages_in page_size used n numbers)
unfolding stream_pages_in
place_fails page_size used n [] = tt
place_fails page_size used n (count ∷ numbers) =
    behind (refuse (nat_le count n) (StreamNotFound n)) _ (refused (nat_le count n) (StreamNotFound n) tt)
    (λ a. behind (refuse (nat_lt (length numbers) count) UnexpectedEof) _ (refused (nat_lt (length numbers) count) UnexpectedEof tt)
    (λ b. behind (refuse (slice_index numbers n == absent) (StreamNotFound n)) _ (refused (slice_index numbers n == absent) (StreamNotFound n) tt)
    (λ c. behind {B = ℕ × List ℕ} (pages_in used (page_count page_size (slice_index numbers n)) (drop (count + sum_by (page_count page_size) (take n numbers)) numbers)) (λ pages. Ok (slice_index numbers n, pages)) (pages_fail used (page_count page_size (slice_index numbers n)) (drop (count + sum_by (page_count page_size) (take n numbers)) numbers)) (λ pages. tt))))

stream_fails : (h : Layout) (file : List ℕ) (n : ℕ) (limit : Option ℕ) → FailsAsStream (stream_in h file n limit)
unfolding stream_in
stream_fails h file n limit =
    behind (directory_of h file) _ (directory_fails h file)
    (λ directory. behind (stream_pages_in h.page_size h.pages_used n directory) _ (place_fails h.page_size h.pages_used n directory) (λ found. bytes_fail file _))

open_fails : (r : Result Layout Fault) (next : Layout → Result (List ℕ) Fault) → fault_in r ≡ None → ((h : Layout) → FailsAsStream (next h)) → FailsAsStream (r >>= next)
open_fails (Ok h) next is fails = fails h
open_fails (Err e) next is fails = absurd cc

any_stream_fails : (file : List ℕ) (n : ℕ) → (streams file).open_fault ≡ None → FailsAsStream ((streams file).at n)
unfolding streams stream
any_stream_fails file n is = open_fails (layout_of file) (λ h. stream_in h file n None) is (λ h. stream_fails h file n None)

named_fails : (n : ℕ) (r : Result (List ℕ) Fault) → FailsAsStream r → FailsAsStream (if_named n r)
unfolding if_named
named_fails n r h = elim (nat_lt n 65535) as (λ b. FailsAsStream {A = Option (List ℕ)} (if b then (r >>= λ bytes. Ok (Some bytes)) else Ok None)) [
  | true ↦ behind {B = Option (List ℕ)} r (λ bytes. Ok (Some bytes)) h (λ bytes. tt)
  | false ↦ tt
]

-- the own stream of a module of an open file
pub module_fails : (file : List ℕ) (m : Module) → (streams file).open_fault ≡ None → FailsAsStream (module_info (streams file) m)
unfolding module_info info_in
module_fails file m is =
    behind {B = Option ModuleStream} (if_named m.stream ((streams file).at m.stream)) (λ found. Ok (option_map (module_stream m) found))
    (named_fails m.stream ((streams file).at m.stream) (any_stream_fails file m.stream is)) (λ found. tt)

-- ---- where stream 3 was read

fault_where_read : {B : Type 0} (r : Result Layout Fault) (f : Layout → Result (List ℕ) Fault) (g : List ℕ → Result B Fault) (x : B) → ((r >>= f) >>= g) ≡ Ok x → fault_in r ≡ None
fault_where_read (Ok h) f g x read = refl
fault_where_read (Err e) f g x read = absurd cc

-- where stream 3 was read, the file was opened
pub open_where_read : (file : List ℕ) (d : Dbi) → debug_information (shared (streams file)) ≡ Ok d → (streams file).open_fault ≡ None
unfolding debug_information shared streams stream
open_where_read file d read = fault_where_read (layout_of file) (λ h. stream_in h file 3 None) _ d read
