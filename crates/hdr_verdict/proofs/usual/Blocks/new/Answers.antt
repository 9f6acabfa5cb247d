use Rattle.std.proofs.Common.{[], refl, sym, subst}
use Rattle.std.specs.List.{All}
use Rattle.std.proofs.lemmas.List.Elements.{All-nil}
use Rattle.hdr_verdict.specs.Blocks.{AreValuesOf}
use Rattle.hdr_verdict.proofs.usual.Blocks.new.Goals as goal

pub returns-clause-none : goal.returns-clause-none
returns-clause-none c = λ total. record {
  same_width = refl;
  classes = c.in_ok-histogram.ensures.classes;
  part = c.in_ok-histogram.ensures.samples;
  values = subst (All (AreValuesOf total c.args.least [])) (sym c.new.ensures.items) (All-nil (AreValuesOf total c.args.least []));
}
