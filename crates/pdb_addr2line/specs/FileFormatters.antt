-- A formatter of a file's types and ids.
use Rattle.std.specs.Prelude.{◌≡◌, ℕ, List}
use Rattle.pdb_addr2line.specs.Formatters.{formatting_of}
use Rattle.pdb_addr2line.specs.Printing.{Formatting}
use Rattle.pdb_loading.specs.declared.order.ContributionOrder.{ContributionOrder}
use Rattle.pdb_loading.specs.Held.{Held}
use Rattle.pdb_loading.specs.LoadedFile.{IsLoadedWith}
use Rattle.pdb_loading.specs.ModuleInfos.{KeptInfo}

-- A formatter is over what is held of a file of these bytes, where section contributions have to
-- stand in this order, and has these flags.
abbrev pub IsFormatterOf : ContributionOrder → List ℕ → ℕ → Formatting (List KeptInfo) → Type 0
IsFormatterOf order bytes flags formatter =
    (h : Held) × IsLoadedWith order bytes h × (formatter ≡ formatting_of h flags)
