use Rattle.std.proofs.Common.{ℕ, sym, subst}
use Rattle.hdr_base.specs.Classes.{HasScale}
use Rattle.hdr_figures.proofs.sum.Sum.is_finer_than.Goals as goal

pub unreachable-requires : goal.unreachable-requires
unreachable-requires c =
    let h = c.args.self.now.histogram in
    c.in-None.ensures.scale (subst (λ (s : ℕ). HasScale c.low.result s) (sym c.sigfig.ensures.value) (subst (λ (l : ℕ). HasScale l h.sigfig) (sym c.low.ensures) c.requires.scale))
