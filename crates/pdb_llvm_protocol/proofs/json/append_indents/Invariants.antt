use Rattle.std.proofs.Common.{◌≡◌, ◌++◌}
use Rattle.pdb_llvm_protocol.specs.Json.{indent}
use Rattle.pdb_llvm_protocol.proofs.json.append_indents.Given as goal

-- the indents so far stand after the text
abbrev pub invariant-loop-i : goal.invariant-loop-i
invariant-loop-i l = l.output.items ≡ l.fn.output.items ++ indent l._i
