-- Spans that take half as much memory as others.
use Rattle.std.specs.Prelude.{ℕ, ◌+◌, ◌/◌, ◌%◌, List, map, nat_lt, if◌then◌else◌}
use Rattle.pdb_pieces.specs.declared.search.Stored.{Stored}
use Rattle.pdb_pieces.specs.declared.search.Stored.TheVariants.{Short, Whole}
use Rattle.pdb_pieces.specs.declared.short_spans.ShortSpan.{ShortSpan}
use Rattle.pdb_pieces.specs.declared.span.Span.{Span}

-- the rank of a span that begins at a place, by its code: the last code is for the offset of the
-- place
abbrev pub rank_by : ℕ → ℕ → ℕ
rank_by start code = if nat_lt code 32767 then code else start % 8589934592

-- the span that a short one stands for
abbrev pub whole_span : ShortSpan → Span
whole_span s =
    record {
      start = s.place_and_code / 32768;
      end = s.place_and_code / 32768 + s.to_last + 1;
      mark =
          record {
            rank = rank_by (s.place_and_code / 32768) (s.place_and_code % 32768);
            value = s.value;
          };
    }

-- the spans that short ones stand for
abbrev pub whole_spans : List ShortSpan → List Span
whole_spans spans = map whole_span spans

-- the spans that are stored
abbrev pub stored_spans : Stored → List Span
stored_spans (Short v) = whole_spans v.items
stored_spans (Whole v) = v.items
