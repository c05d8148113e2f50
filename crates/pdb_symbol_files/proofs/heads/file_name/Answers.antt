use Rattle.pdb_symbol_files.proofs.FileNames.{name_after, name_whole}
use Rattle.pdb_symbol_files.proofs.heads.file_name.Goals as goal

pub returns-in-Some : goal.returns-in-Some
returns-in-Some c =
    let h = c.in-Some.ensures.cases in
    name_after c.args.path.now c.in-Some.name.now h.0 h.1 h.2.0 h.2.1 h.4

pub returns-in-None : goal.returns-in-None
returns-in-None c = name_whole c.args.path.now c.in-None.ensures.cases
