use Rattle.std.proofs.Common.{◌≡◌, ℕ, ◌/◌, ◌-◌, ◌^◌, ◌<◌, false, leb, Option, Some, None, refl, sym, ap, ◌∙◌, arith}
use Rattle.std.specs.List.{count_by}
use Rattle.std.specs.Option.{option_map}
use Rattle.hdr_base.specs.Classes.{lowest_of, top_of}
use Rattle.hdr_model.specs.Plain.{resolution}
use Rattle.hdr_input.specs.declared.bound.Bound.{Bound}
use Rattle.hdr_input.specs.Bounds.{IsMost, is_within, of_decimals}
use Rattle.hdr_summary.proofs.CountsByClass.{by-class, by-class-none, fit-units}
use Rattle.hdr_summary.proofs.classes.counts_of.Goals as goal

module _ (b : Bound) (d f : ℕ) where
  -- the greatest value of which this is the quotient
  pub record Greatest (quotient : ℕ) : Type 0 where
    pub most : ℕ
    pub quotient_is : quotient ≡ most / f
    pub within : (v : ℕ) → v < 2 ^ 64 → is_within b (of_decimals d v) ≡ leb v most

  divided : (most : Option ℕ) (quotient : ℕ) → option_map (λ m. m / f) most ≡ Some quotient → IsMost b d most → Greatest quotient
  divided None quotient is greatest = absurd (cc)
  divided (Some most) quotient is greatest = record { most = most; quotient_is = (cc); within = greatest }

  none : (most : Option ℕ) → option_map (λ m. m / f) most ≡ None → IsMost b d most → (v : ℕ) → is_within b (of_decimals d v) ≡ false
  none None is greatest = greatest
  none (Some most) is greatest = absurd (cc)

pub returns-in-Some : goal.returns-in-Some
returns-in-Some c = λ b d S some is stands fit. (
    let h = c.args.histogram.now in
    let f = c.args.factor in
    let g = divided b d f c.args.most c.in-Some.most (sym (c.most_in.ensures some) ∙ c.in-Some.is) is in
    let all = c.counts_at.ensures in
    by-class b d f h S c.in_units.result stands (c.in_units.ensures.total ∙ all.total) (omega (arith, stands.total)) g.most some (fit-units f (2 ^ 64 - 1) h S some all.plain stands fit) g.within
    (c.in_units.ensures.sure ∙ all.sure S stands ∙ ap (λ n. count_by (λ s. leb (top_of (resolution h) s) n) S) g.quotient_is)
    (c.in_units.ensures.perhaps ∙ all.perhaps S stands ∙ ap (λ n. count_by (λ s. leb (lowest_of (resolution h) s) n) S) g.quotient_is)
    )

pub returns-in-None : goal.returns-in-None
returns-in-None c = λ b d S some is stands fit. (
    by-class-none b d c.args.factor c.args.histogram.now S _ stands c.len.ensures (omega arith)
    (none b d c.args.factor c.args.most (sym (c.most_in.ensures some) ∙ c.in-None.is) is) refl refl
    )
