use Rattle.hdr_tool.proofs.Common.{subst, sym, Consumes-nil, Consumes}
use Rattle.hdr_tool.proofs.stream.read_pieces.Goals as goal

pub loop-init : goal.loop-init
loop-init g c = record {
  room = c.requires.nonempty;
  taken = subst (λ t. Consumes (g.R.Read.remaining c.args.reader.now) (g.R.Read.remaining c.args.reader.now) t) (sym c.requires.empty) (Consumes-nil (g.R.Read.remaining c.args.reader.now));
}
