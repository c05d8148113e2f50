use Rattle.std.proofs.Common.{◌<◌, arith, string_bytes}
use Rattle.pdb_symbol_files.specs.PieceRecords.{depth_of, numbers_after_inlines}
use Rattle.pdb_symbol_files.proofs.InlineSteps.{levels_more, levels_text_more}
use Rattle.pdb_symbol_files.proofs.inlines.append_inlines.Goals as goal

pub loop-level-preserved : goal.loop-level-preserved
loop-level-preserved c =
    let pieces = c.args.pieces.now in
    let lt : c.loop-level.level < depth_of pieces = omega arith in
    record {
      given = levels_more pieces c.loop-level.level (depth_of pieces) c.loop-level.numbers
          c.append_level.new.numbers (numbers_after_inlines c.args.numbers.now pieces) lt
          c.in_ok-append_level.ensures.numbers c.loop-level.invariant.given;
      written = levels_text_more pieces c.loop-level.level (depth_of pieces) c.loop-level.numbers
          c.append_level.new.numbers (string_bytes c.loop-level.output)
          (string_bytes c.append_level.new.output) _ lt
          c.in_ok-append_level.ensures.numbers c.in_ok-append_level.ensures.text
          c.loop-level.invariant.written;
    }
