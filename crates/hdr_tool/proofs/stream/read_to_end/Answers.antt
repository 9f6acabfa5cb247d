use Rattle.hdr_tool.proofs.Common.{◌≡◌, refl, Consumes-whole}
use Rattle.hdr_tool.proofs.stream.read_to_end.Goals as goal

pub returns-clause-ok : goal.returns-clause-ok
returns-clause-ok g c =
    let input = c.read_pieces.new.input.items in
    Consumes-whole (g.R.Read.remaining c.args.reader.now) (g.R.Read.remaining c.read_pieces.new.reader) input (λ all. input ≡ all) c.in_ok-read_pieces.ensures.ok c.in_ok-read_pieces.ensures.end refl
