use Rattle.std.proofs.Common.{◌≡◌, ◌+◌, ◌/◌, ◌<◌, ◌≤◌, false, cond, List, [], ◌∷◌, Some, None, sym, refl, ap, ◌∙◌, subst, ⊎_elim}
use Rattle.std.proofs.lemmas.Bool.{false≢true, cases_lt}
use Rattle.hdr_iterators.specs.Seen.{bins_in, bin_or_last}
use Rattle.hdr_iterators.specs.Picks.{Pick, NoneBefore}
use Rattle.hdr_iterators.specs.Places.{level_pick}
use Rattle.hdr_iterators.specs.Linear.{LinearStep, levels_from, end_at}
use Rattle.hdr_iterators.proofs.LinearLevels.{linear_step, levels_behind, next_here}
use Rattle.hdr_iterators.proofs.linear.IterPickyIterator.pick.Goals as goal
use Rattle.hdr_iterators.proofs.linear.IterPickyIterator.pick.Goals.{then-self-via-then-self, then-self-via-else-self+then-not-is_due}

pub returns-then-self : goal.returns-then-self
returns-then-self g c = λ h last w candidate ahead.
    let p = c.args.self.now in
    let i = c.args.index in
    let coming : List Pick = levels_from h p.step (p.level / p.step) in
    elim c.then-self.branch [
      | then-self-via-then-self b ↦ (w, refl, subst (λ d. NoneBefore (i + 1) (cond d [] coming)) (sym b.if-self.true) tt)
      | then-self-via-else-self+then-not-is_due b ↦
          let behind : i < bin_or_last h p.level =
          ⊎_elim
          (λ (lt : i < bin_or_last h p.level). lt)
          (λ (ge : bin_or_last h p.level ≤ i).
          let in_bins : i < bins_in p.bins = rw w.0 candidate.inside in
          let at : p.place ≤ i = rw w.1 ge in
          absurd (false≢true (sym b.if-not-is_due.true ∙ b.is_due.ensures.1 (in_bins, at))))
          (cases_lt i (bin_or_last h p.level)) in
          (w, refl, levels_behind h p.step p.level i p.end p.done w.2 behind)
    ]

pub returns : goal.returns
returns g c = λ h last w candidate ahead.
    let p = c.args.self.now in
    let i = c.args.index in
    let coming : List Pick = levels_from h p.step (p.level / p.step) in
    let going : LinearStep h p.step p.level p.end false = subst (λ d. LinearStep h p.step p.level p.end d) c.if-self.false w.2 in
    let ahead_there : NoneBefore i coming = subst (λ d. NoneBefore i (cond d [] coming)) c.if-self.false ahead in
    let due : bin_or_last h p.level ≤ i = rw w.1 at (c.is_due.ensures.0 c.if-not-is_due.false).1 in
    let here = next_here h p.step p.level i p.end going due ahead_there in
    let end_is : c.end_after-end.result ≡ end_at h p.end i = c.end_after-end.ensures ∙ ap (λ q. end_at q p.end i) w.0 in
    let stepped = linear_step h p.step p.level i c.saturating_add-self.result p.end c.end_after-end.result c.was_last-self.result going here.0 c.saturating_add-self.ensures end_is c.was_last-self.ensures in
    let rest : List Pick = levels_from h p.step (p.level / p.step + 1) in
    let first : Pick = record { place = i; tick = None; level = Some p.level } in
    let placed : level_pick h p.level ∷ rest ≡ first ∷ rest = ap (λ q. record { place = q; tick = None; level = Some p.level } ∷ rest) (sym here.0) in (
      (w.0, c.bin_or_last-self.ensures.value ∙ ap (λ q. bin_or_last q c.saturating_add-self.result) w.0, stepped.step),
      rw c.new.ensures (ap (λ d. cond d [] coming) c.if-self.false ∙ (here.1 ∙ (placed ∙ ap (λ ps. first ∷ ps) (sym stepped.rest)))),
    )
