use Rattle.hdr_draw.proofs.Escaping.{read_back}
use Rattle.hdr_draw.proofs.laws.escaped_texts_read_back.Goals as goal

pub returns : goal.returns
returns c = read_back
