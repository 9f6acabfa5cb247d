use Rattle.std.proofs.Common.{◌≡◌, [], ◌∷◌, ◌++◌, subst, sym}
use Rattle.std.specs.List.{All}
use Rattle.std.proofs.lemmas.List.Elements.{All-append, All-cons, All-nil}
use Rattle.hdr_figures.specs.Breaks.{IsBreakOf}
use Rattle.hdr_figures.proofs.breaks.breaks_of.Goals as goal

pub loop-gap-2-preserved-then-is_break_of : goal.loop-gap-2-preserved-then-is_break_of
loop-gap-2-preserved-then-is_break_of c =
    let P = IsBreakOf c.args.intervals.now in
    let one : All P (c.in-Some.gap ∷ []) = All-cons P c.in-Some.gap [] (c.is_break_of.ensures.0 c.if-is_break_of.true) (All-nil P) in
    let items : c.push.new.self.items ≡ c.loop-gap-2.breaks.items ++ c.in-Some.gap ∷ [] = c.in_ok-push.ensures.items in
    subst (λ l. All P l) (sym items) (All-append P c.loop-gap-2.breaks.items (c.in-Some.gap ∷ []) c.loop-gap-2.invariant one)
