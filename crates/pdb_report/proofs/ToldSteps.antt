-- What is written for an address is what its answer says, whichever fault is reported of it.
use Rattle.std.proofs.Common.{◌≡◌, ℕ, List, Result, Ok, Err, refl, sym, ap}
use Rattle.std.specs.Prelude.{Option, None, Some, IsErr, codes}
use Rattle.pdb_engine.specs.Address.{address_of}
use Rattle.pdb_resolving.specs.Fault.{Fault}
use Rattle.pdb_owners.specs.Frames.{FunctionFrames}
use Rattle.pdb_report.specs.AddressText.{AddressAnswers, answer_text, line_text, text_at}
use Rattle.pdb_report.specs.JsonLine.{address_object, json_answer, json_at, json_line, json_other, unreadable_member}

-- what was found is written
pub found_text : (answered : Result (Option FunctionFrames) Fault) (x : Option FunctionFrames) → answered ≡ Ok x → answer_text (Ok x) ≡ answer_text answered
found_text answered x is = sym (ap answer_text is)

-- and so is that it can't be read
pub unreadable_text : (answered : Result (Option FunctionFrames) Fault) → IsErr answered → (text : _) → ((e : Fault) → text ≡ answer_text (Err e)) → text ≡ answer_text answered
unreadable_text (Ok x) is text same = absurd cc
unreadable_text (Err e) is text same = same e

-- the same in JSON
pub found_json : (answered : Result (Option FunctionFrames) Fault) (x : Option FunctionFrames) → answered ≡ Ok x → json_answer (Ok x) ≡ json_answer answered
found_json answered x is = sym (ap json_answer is)

pub unreadable_json : (answered : Result (Option FunctionFrames) Fault) → IsErr answered → unreadable_member ≡ json_answer answered
unreadable_json (Ok x) is = absurd cc
unreadable_json (Err e) is = refl

-- what is written for a line that is an address, and for another
pub found_line : (answers : AddressAnswers) (line : List ℕ) (address : ℕ) → Some address ≡ address_of line → text_at answers (Some address) ≡ line_text answers line
unfolding line_text
found_line answers line address is = ap (text_at answers) is

pub other_line : (answers : AddressAnswers) (line : List ℕ) → (let none : Option ℕ = None in none) ≡ address_of line → codes "not an address\n" ≡ line_text answers line
unfolding line_text
other_line answers line none = ap (text_at answers) none

pub found_json_line : (answers : AddressAnswers) (line : List ℕ) (address : ℕ) → Some address ≡ address_of line → address_object address (json_answer (answers address)) ≡ json_line answers line
unfolding json_line
found_json_line answers line address is = ap (json_at answers line) is

pub other_json_line : (answers : AddressAnswers) (line : List ℕ) → (let none : Option ℕ = None in none) ≡ address_of line → json_other line ≡ json_line answers line
unfolding json_line
other_json_line answers line none = ap (json_at answers line) none
