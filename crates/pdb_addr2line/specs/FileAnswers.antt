-- A file that is read on demand, and a context over what was read of it.
use Rattle.std.specs.Prelude.{◌≡◌, true, List, ℕ, Option, IfSome, Result, Ok}
use Rattle.pdb_addresses.specs.Addresses.{IsOrdered}
use Rattle.pdb_addr2line.specs.Context.{Context}
use Rattle.pdb_addr2line.specs.Answer.{AnswersNamed, answer_named, answered_in, frames_named}
use Rattle.pdb_loading.specs.declared.order.ContributionOrder.{ContributionOrder}
use Rattle.pdb_file_views.specs.Views.{Views, agrees}
use Rattle.pdb_loading.specs.Held.{Held, parts_held_with}
use Rattle.pdb_loading.specs.LoadedFile.{FileBytes, IsLoadedWith}
use Rattle.pdb_loading.specs.ModuleInfos.{KeptInfo}
use Rattle.pdb_owners.specs.Databases.{Database}
use Rattle.pdb_owners.specs.Frames.{FunctionFrames}
use Rattle.pdb_resolving.specs.Fault.{Fault}
use Rattle.pdb_symbols_modules.specs.Streams.{streams}

-- the parts of a file that were read, the bytes that it is taken to have, the order in which its
-- section contributions have to stand, the flags by which names are made, its database, which is
-- held, and the context that is asked
pub record FileAnswers : Type 0 where
  pub views : Views
  pub contents : List ℕ
  pub order : ContributionOrder
  pub flags : ℕ
  pub held : Held
  pub context : Option (Context (List KeptInfo))

-- the bytes that the file is taken to have, with the order in which section contributions have to
-- stand
abbrev pub file_of : FileAnswers → FileBytes
file_of f = record { bytes = f.contents; order = f.order }

-- the bytes agree with everything that was read
abbrev pub IsKnown : FileAnswers → Type 0
IsKnown f = agrees f.views f.contents ≡ true

-- the answer for an address of the file that has these bytes
abbrev pub answer_of_file : FileAnswers → ℕ → Result (Option FunctionFrames) Fault
answer_of_file f = answer_named f.flags f.order (streams f.contents)

-- the frames at places of the sections of that file, and where they may change
abbrev pub frames_of_file : FileAnswers → Database (Option FunctionFrames)
frames_of_file f = frames_named f.flags f.order (streams f.contents)

-- A context is over what is held, and answers as the file does, where the bytes agree with what was
-- read.
pub record IsContextOf (f : FileAnswers) (c : Context (List KeptInfo)) : Type 0 where
  pub parts : parts_held_with f.order f.held ≡ Ok c.parts
  pub answers : IsKnown f → AnswersNamed f.flags f.order answered_in (streams f.contents) c

-- Where the bytes agree with what was read, what is held and what is answered are as for a file
-- that has them.
pub record IsOfContents (f : FileAnswers) : Type 0 where
  pub ordered : IsOrdered f.held.tables.map
  pub held_is : IsKnown f → IsLoadedWith f.order f.contents f.held
  pub context_is : IfSome f.context (IsContextOf f)

-- the context was asked nothing yet
abbrev pub IsUnasked : FileAnswers → Type 0
IsUnasked f = IfSome f.context (λ c. c.lookups ≡ 0)

-- the same file with another context, or none
abbrev pub with_context : FileAnswers → Option (Context (List KeptInfo)) → FileAnswers
with_context f context = record {
  views = f.views;
  contents = f.contents;
  order = f.order;
  flags = f.flags;
  held = f.held;
  context = context;
}
