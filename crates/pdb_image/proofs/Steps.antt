-- What steps have done, one code after the other.
use Rattle.std.proofs.Common.{◌≡◌, ℕ, ◌+◌, ◌^◌, ◌<◌, ◌≤◌, ◌||◌, List, [], ◌∷◌, Bool, true, false}
use Rattle.std.proofs.Common.{cond, eqb, length, get_or, set, map, drop, replicate, refl, sym, ap, ◌∙◌}
use Rattle.std.proofs.Common.{arith, inl, inr, leb, max, subst, IfSome, unwrap_or}
use Rattle.std.proofs.Common.{get_or-set_other, length-set}
use Rattle.std.specs.Prelude.{Option, None, Some}
use Rattle.std.specs.List.{range_with_len}
use Rattle.std.proofs.lemmas.List.FromFn.{fill_by_all, get_or-map-range_with_len, length-map-range_with_len}
use Rattle.std.proofs.lemmas.Grind.{get_or-set_at}
use Rattle.std.proofs.lemmas.Bool.{cases_eq, eq-eqb, le-leb, lt-leb, ne_eqb}
use Rattle.std.proofs.lemmas.List.{drop_more, drop_all, set_past}
use Rattle.pdb_image.specs.Codes.{is_machine_frame}
use Rattle.pdb_image.specs.Rules.{AreShort, IsShort, cfa_rule, depth, done, frame, frame_after}
use Rattle.pdb_image.specs.Rules.{frame_set, growth_of, has_machine_frame, last_offset}
use Rattle.pdb_image.specs.Rules.{register_rule, return_rule, rules_after, saved, saved_after}
use Rattle.pdb_image.specs.Rules.{slot_rule, slots_after, slots_of, steps_after, steps_of}
use Rattle.pdb_image.specs.declared.code.UnwindCode.{UnwindCode}
use Rattle.pdb_image.specs.declared.code.UnwindOperation.{UnwindOperation}
use Rattle.pdb_image.specs.declared.code.UnwindOperation.TheVariants.{Push, Allocate, SetFrame}
use Rattle.pdb_image.specs.declared.code.UnwindOperation.TheVariants.{Save, MachineFrame}
use Rattle.pdb_image.specs.declared.frame.Frame.{Frame}
use Rattle.pdb_image.specs.declared.frame.Saved.{Saved}
use Rattle.pdb_image.specs.declared.frame.Saved.TheVariants.{Below, Above}
use Rattle.pdb_image.specs.declared.frame.Steps.{Steps}
use Rattle.pdb_image.specs.declared.rules.Expression.{Expression}
use Rattle.pdb_image.specs.declared.rules.Rules.{Rules}

-- ---- no step

pub nothing_done : record { depth = 0; frame = None; is_machine = false; slots = replicate 16 None }
    ≡ steps_of []
nothing_done = refl

-- ---- one step more

-- a register's slot is put among those of the steps before
slots_put : (r : ℕ) (s : Saved) (before : List UnwindCode)
    → set (slots_of before) r (Some s)
    ≡ map (λ k. cond (eqb r k) (Some s) (saved k before)) (range_with_len 0 16)
slots_put r s before =
    let f = λ (k : ℕ). saved k before in
    let g = λ (k : ℕ). cond (eqb r k) (Some s) (saved k before) in
    let old = slots_of before in
    let size : length old ≡ 16 = length-map-range_with_len f 0 16 in
    fill_by_all g (set old r (Some s)) 16 None (length-set old r (Some s) ∙ size)
    (λ (k : ℕ) (lt : k < 16). elim (cases_eq r k) [
      | inl same ↦
          get_or-set_at old r k (Some s) None (sym same) (omega arith)
          ∙ sym (ap (λ (b : Bool). cond b (Some s) (f k)) (eq-eqb r k same))
      | inr other ↦
          get_or-set_other old r k (Some s) None (λ (e : k ≡ r). other (sym e))
          ∙ get_or-map-range_with_len f 0 16 k k None lt (omega arith)
          ∙ sym (ap (λ (b : Bool). cond b (Some s) (f k)) (ne_eqb r k other))
    ])

slots_taken : (op : UnwindOperation) (d : ℕ) (before : List UnwindCode)
    → slots_after op d (slots_of before)
    ≡ map (λ k. saved_after k op d (saved k before)) (range_with_len 0 16)
slots_taken (Push r) d before = slots_put r (Below d) before
slots_taken (Save r o) d before = slots_put r (Above o) before
slots_taken (Allocate size) d before = refl
slots_taken (SetFrame r o) d before = refl
slots_taken (MachineFrame b) d before = refl

step_taken : (c : UnwindCode) (before : List UnwindCode)
    → steps_after c.operation (steps_of before) ≡ steps_of (c ∷ before)
step_taken c before =
    let d = depth before + growth_of c.operation in
    let f = frame_after c.operation (depth before) (frame_set before) in
    let m = is_machine_frame c || has_machine_frame before in
    ap (λ (xs : List (Option Saved)). record { depth = d; frame = f; is_machine = m; slots = xs })
    (slots_taken c.operation d before)

-- a slot past the last register's isn't put
pub not_put : (slots : List (Option Saved)) (i : ℕ) (s : Option Saved) → length slots ≡ 16
    → 16 ≤ i → slots ≡ set slots i s
not_put slots i s size past = sym (set_past slots i s (omega arith))

-- ---- from the last code to the first

-- a code's step is done
pub step_counted : (o : ℕ) (c : UnwindCode) (before : List UnwindCode) (old next : Steps)
    → c.offset ≤ o → next ≡ steps_after c.operation old → old ≡ steps_of (done o before)
    → next ≡ steps_of (done o (c ∷ before))
step_counted o c before old next le more h =
    more ∙ ap (steps_after c.operation) h ∙ step_taken c (done o before)
    ∙ ap (λ (b : Bool). steps_of (cond b (c ∷ done o before) (done o before)))
    (sym (le-leb c.offset o le))

-- a code's step isn't done yet
pub step_passed : (o : ℕ) (c : UnwindCode) (before : List UnwindCode) (old : Steps)
    → o < c.offset → old ≡ steps_of (done o before) → old ≡ steps_of (done o (c ∷ before))
step_passed o c before old late h =
    h ∙ ap (λ (b : Bool). steps_of (cond b (c ∷ done o before) (done o before)))
    (sym (lt-leb c.offset o late))

pub steps_more : (o i j : ℕ) (codes : List UnwindCode) (c : UnwindCode) (next : Steps)
    → i < length codes → c ≡ get_or codes i c → i + 1 ≡ j
    → next ≡ steps_of (done o (c ∷ drop j codes)) → next ≡ steps_of (done o (drop i codes))
steps_more o i j codes c next lt e one h =
    h
    ∙ ap (λ (n : ℕ). steps_of (done o (c ∷ drop n codes))) (sym one)
    ∙ ap (λ (x : UnwindCode). steps_of (done o (x ∷ drop (i + 1) codes))) e
    ∙ ap (λ (xs : List UnwindCode). steps_of (done o xs)) (sym (drop_more codes i c lt))

pub steps_none : (o i : ℕ) (codes : List UnwindCode) (start : Steps) → length codes ≤ i
    → start ≡ steps_of [] → start ≡ steps_of (done o (drop i codes))
steps_none o i codes start past e =
    e ∙ ap (λ (xs : List UnwindCode). steps_of (done o xs)) (sym (drop_all i codes past))

-- ---- the tail

pub tail_more : (i j : ℕ) (codes : List UnwindCode) (c : UnwindCode) → i < length codes
    → i + 1 ≡ j → (get_or codes i c).offset ≡ 0 → last_offset (drop j codes) ≡ 0
    → last_offset (drop i codes) ≡ 0
tail_more i j codes c lt one first rest =
    let all : last_offset (drop i codes) ≡ max (get_or codes i c).offset (last_offset (drop (i + 1) codes))
    = ap last_offset (drop_more codes i c lt) in
    let behind : last_offset (drop (i + 1) codes) ≡ 0
    = ap (λ (n : ℕ). last_offset (drop n codes)) one ∙ rest in
    omega arith

pub tail_none : (i : ℕ) (codes : List UnwindCode) → length codes ≤ i
    → last_offset (drop i codes) ≡ 0
tail_none i codes past = ap last_offset (drop_all i codes past)

-- the same steps of a tail are done at each offset
done_tail : (o : ℕ) (codes : List UnwindCode) → last_offset codes ≡ 0
    → done 0 codes ≡ done o codes
done_tail o [] e = refl
done_tail o (c ∷ codes) e =
    ap (λ (xs : List UnwindCode). cond (leb c.offset 0) (c ∷ xs) xs)
    (done_tail o codes (omega arith))
    ∙ ap (λ (b : Bool). cond b (c ∷ done o codes) (done o codes))
    (le-leb c.offset 0 (omega arith) ∙ sym (le-leb c.offset o (omega arith)))

pub tail_steps : (o i : ℕ) (codes : List UnwindCode) (s : Steps)
    → last_offset (drop i codes) ≡ 0 → s ≡ steps_of (done 0 (drop i codes))
    → s ≡ steps_of (done o (drop i codes))
tail_steps o i codes s zeros e = e ∙ ap steps_of (done_tail o (drop i codes) zeros)

-- ---- what lies below the slot of the return address

low_after : (op : UnwindOperation) (d n : ℕ) (x : Option Frame) → d ≤ n
    → IfSome x (λ f. f.low ≤ d) → IfSome (frame_after op d x) (λ f. f.low ≤ n)
low_after (SetFrame r o) d n x le h = le
low_after (Push r) d n None le h = h
low_after (Push r) d n (Some f) le h = omega arith
low_after (Allocate s) d n None le h = h
low_after (Allocate s) d n (Some f) le h = omega arith
low_after (Save r o) d n None le h = h
low_after (Save r o) d n (Some f) le h = omega arith
low_after (MachineFrame b) d n None le h = h
low_after (MachineFrame b) d n (Some f) le h = omega arith

low_set : (steps : List UnwindCode) → IfSome (frame_set steps) (λ f. f.low ≤ depth steps)
low_set [] = tt
low_set (c ∷ before) =
    low_after c.operation (depth before) (depth before + growth_of c.operation) (frame_set before)
    (omega arith) (low_set before)

low_of : (x : Option Frame) (d : ℕ) → IfSome x (λ f. f.low ≤ d)
    → (unwrap_or x (record { register = 4; offset = 0; low = d })).low ≤ d
low_of None d h = omega arith
low_of (Some f) d h = h

-- the frame's lowest address isn't below the stack pointer
pub frame_low : (steps : List UnwindCode) (s : Steps) (f : Frame) → s ≡ steps_of steps
    → f ≡ unwrap_or s.frame (record { register = 4; offset = 0; low = s.depth })
    → s.depth < 2 ^ 48 → f.low < 2 ^ 48
frame_low steps s f e is small =
    let low : IfSome s.frame (λ x. x.low ≤ s.depth)
    = subst (λ (x : Steps). IfSome x.frame (λ y. y.low ≤ x.depth)) (sym e) (low_set steps) in
    let same : f.low ≡ (unwrap_or s.frame (record { register = 4; offset = 0; low = s.depth })).low
    = ap (λ (x : Frame). x.low) is in
    let le = low_of s.frame s.depth low in
    omega arith

short_if : (b : Bool) (s : Saved) (x : Option Saved) → IsShort s → IfSome x IsShort
    → IfSome (cond b (Some s) x) IsShort
short_if true s x here h = here
short_if false s x here h = h

short_after : (r : ℕ) (op : UnwindOperation) (d : ℕ) (x : Option Saved) → d < 2 ^ 48
    → IfSome x IsShort → IfSome (saved_after r op d x) IsShort
short_after r (Push other) d x lt h = short_if (eqb other r) (Below d) x lt h
short_after r (Save other o) d x lt h = short_if (eqb other r) (Above o) x tt h
short_after r (Allocate size) d x lt h = h
short_after r (SetFrame other o) d x lt h = h
short_after r (MachineFrame b) d x lt h = h

short_saved : (r : ℕ) (steps : List UnwindCode) → depth steps < 2 ^ 48
    → IfSome (saved r steps) IsShort
short_saved r [] lt = tt
short_saved r (c ∷ before) lt =
    short_after r c.operation (depth (c ∷ before)) (saved r before) lt
    (short_saved r before (omega arith))

slot_of : (steps : List UnwindCode) (slots : List (Option Saved)) (k : ℕ)
    → slots ≡ slots_of steps → k < 16 → get_or slots k None ≡ saved k steps
slot_of steps slots k e lt =
    ap (λ (xs : List (Option Saved)). get_or xs k None) e
    ∙ get_or-map-range_with_len (λ (n : ℕ). saved n steps) 0 16 k k None lt (omega arith)

pub slots_short : (steps : List UnwindCode) (s : Steps) → s ≡ steps_of steps
    → s.depth < 2 ^ 48 → AreShort s.slots
slots_short steps s e small k lt =
    let deep : s.depth ≡ depth steps = ap (λ (x : Steps). x.depth) e in
    subst (λ (x : Option Saved). IfSome x IsShort)
    (sym (slot_of steps s.slots k (ap (λ (x : Steps). x.slots) e) lt))
    (short_saved k steps (omega arith))

-- ---- the rules by what the steps have done

rules_made : Expression → Expression → List (Option Expression) → Rules
rules_made cfa address saved = record { cfa = cfa; return_address = address; saved = saved }

-- the rules by the slots are those by the steps
rules_by_slots : (steps : List UnwindCode) (m : Bool) (f : Frame) (slots : List (Option Saved))
    → m ≡ has_machine_frame steps → f ≡ frame steps → slots ≡ slots_of steps
    → map (slot_rule m f slots) (range_with_len 0 16)
    ≡ map (register_rule steps) (range_with_len 0 16)
rules_by_slots steps m f slots machine is e =
    ap (λ (b : Bool). map (slot_rule b f slots) (range_with_len 0 16)) machine
    ∙ ap (λ (x : Frame). map (slot_rule (has_machine_frame steps) x slots) (range_with_len 0 16)) is
    ∙ ap (λ (xs : List (Option Saved)). map (slot_rule (has_machine_frame steps) (frame steps) xs) (range_with_len 0 16)) e

pub rules_given : (steps : List UnwindCode) (s : Steps) (f : Frame) (cfa address : Expression)
    (saved : List (Option Expression)) → s ≡ steps_of steps → f ≡ frame steps
    → cfa ≡ cfa_rule s.is_machine f → address ≡ return_rule s.is_machine f
    → saved ≡ map (slot_rule s.is_machine f s.slots) (range_with_len 0 16)
    → record { cfa = cfa; return_address = address; saved = saved } ≡ rules_after steps
unfolding rules_after rules_made
rules_given steps s f cfa address saved e fe a b c =
    let machine : s.is_machine ≡ has_machine_frame steps = ap (λ (x : Steps). x.is_machine) e in
    let first : cfa ≡ cfa_rule (has_machine_frame steps) (frame steps)
    = a ∙ ap (λ (m : Bool). cfa_rule m f) machine ∙ ap (cfa_rule (has_machine_frame steps)) fe in
    let second : address ≡ return_rule (has_machine_frame steps) (frame steps)
    = b ∙ ap (λ (m : Bool). return_rule m f) machine ∙ ap (return_rule (has_machine_frame steps)) fe in
    let third = c ∙ rules_by_slots steps s.is_machine f s.slots machine fe (ap (λ (x : Steps). x.slots) e) in
    let one = cfa_rule (has_machine_frame steps) (frame steps) in
    let two = return_rule (has_machine_frame steps) (frame steps) in
    ap (λ (x : Expression). rules_made x address saved) first
    ∙ ap (λ (x : Expression). rules_made one x saved) second
    ∙ ap (rules_made one two) third
