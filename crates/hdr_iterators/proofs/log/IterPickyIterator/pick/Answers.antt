use Rattle.std.proofs.Common.{◌≡◌, ◌+◌, ◌-◌, ◌<◌, ◌≤◌, true, false, cond, List, [], ◌∷◌, Some, None, leb, ◌⊎◌, sym, refl, ap, ap₂, ◌∙◌, subst, inl, inr, ⊎_elim}
use Rattle.std.proofs.lemmas.Bool.{false≢true, cases_lt}
use Rattle.std.proofs.lemmas.Bool.Decides.{leb_tells}
use Rattle.hdr_iterators.specs.Seen.{bins_in, bin_or_last}
use Rattle.hdr_iterators.specs.Picks.{Pick, NoneBefore}
use Rattle.hdr_iterators.specs.Places.{level_pick, log_picks}
use Rattle.hdr_iterators.proofs.LogPowers.{log_behind, log_step, LogStep-next}
use Rattle.hdr_iterators.proofs.log.IterPickyIterator.pick.Goals as goal
use Rattle.hdr_iterators.proofs.log.IterPickyIterator.pick.Goals.{then-self-via-then-self, then-self-via-else-self+then-not-is_due}

pub returns-then-self : goal.returns-then-self
returns-then-self g c = λ h last w candidate ahead.
    let p = c.args.self.now in
    let i = c.args.index in
    let coming : List Pick = log_picks h p.power p.base in
    elim c.then-self.branch [
      | then-self-via-then-self b ↦ (w, refl, subst (λ d. NoneBefore (i + 1) (cond d [] coming)) (sym b.if-self.true) tt)
      | then-self-via-else-self+then-not-is_due b ↦
          let behind : i < bin_or_last h (p.power - 1) =
          ⊎_elim
          (λ (lt : i < bin_or_last h (p.power - 1)). lt)
          (λ (ge : bin_or_last h (p.power - 1) ≤ i).
          let in_bins : i < bins_in p.bins = rw w.0 candidate.inside in
          let at : p.place ≤ i = rw w.1 ge in
          absurd (false≢true (sym b.if-not-is_due.true ∙ b.is_due.ensures.1 (in_bins, at))))
          (cases_lt i (bin_or_last h (p.power - 1))) in
          (w, refl, log_behind h p.power p.base i p.done w.2 behind)
    ]

pub returns : goal.returns
returns g c = λ h last w candidate ahead.
    let p = c.args.self.now in
    let i = c.args.index in
    let coming : List Pick = log_picks h p.power p.base in
    let ahead_there : NoneBefore i coming = subst (λ d. NoneBefore i (cond d [] coming)) c.if-self.false ahead in
    let due : bin_or_last h (p.power - 1) ≤ i = rw w.1 at (c.is_due.ensures.0 c.if-not-is_due.false).1 in
    let picked : ((leb c.last.result i ≡ true) × (h.last ≤ i)) ⊎ ((leb c.last.result i ≡ false) × (i < h.last)) =
    ⊎_elim
    (λ (y : (leb c.last.result i ≡ true) × (c.last.result ≤ i)). inl (y.0, rw (← w.0) (rw c.last.ensures at y.1)))
    (λ (y : (leb c.last.result i ≡ false) × (i < c.last.result)). inr (y.0, rw (← w.0) (rw c.last.ensures at y.1)))
    (leb_tells c.last.result i) in
    let step = log_step h p.power p.base i c.saturating_mul-self.result (leb c.last.result i) w.2 due ahead_there c.saturating_mul-self.ensures picked in
    let rest : List Pick = cond (leb c.last.result i) [] (log_picks h c.saturating_mul-self.result p.base) in
    let first : Pick = record { place = i; tick = None; level = Some c.saturating_sub-level.result } in
    let placed : level_pick h (p.power - 1) ∷ rest ≡ first ∷ rest = ap₂ (λ q v. record { place = q; tick = None; level = Some v } ∷ rest) (sym step.0) (sym c.saturating_sub-level.ensures) in (
      (
        w.0,
        c.bin_or_last-self.ensures.value ∙ ap (λ v. bin_or_last p.bins v) c.saturating_sub.ensures ∙ ap (λ q. bin_or_last q (c.saturating_mul-self.result - 1)) w.0,
        LogStep-next h p.power p.base c.saturating_mul-self.result w.2 c.saturating_mul-self.ensures,
      ),
      rw c.new.ensures (ap (λ d. cond d [] coming) c.if-self.false ∙ (step.1 ∙ placed)),
    )
