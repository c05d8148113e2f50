use Rattle.pdb_container.proofs.Literal.{is_stream, from_stream}
use Rattle.pdb_container.proofs.laws.stream_byte_by_byte.Goals as goal

pub returns : goal.returns
returns c = λ file n limit bytes. (is_stream file n limit bytes, from_stream file n limit bytes)
