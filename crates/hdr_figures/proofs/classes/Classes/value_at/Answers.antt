use Rattle.std.proofs.Common.{◌≡◌, ◌∙◌, ℕ, Option, Some, None, sym, ap}
use Rattle.std.specs.Option.{option_map}
use Rattle.hdr_base.specs.Classes.{top_of, value_of}
use Rattle.hdr_base.specs.Fractions.{Ratio}
use Rattle.hdr_model.specs.Plain.{resolution}
use Rattle.hdr_model.specs.Quantiles.{position_of_rank, rank, value_at_quantile}
use Rattle.hdr_figures.proofs.ClassRanks.{value-some, value-none}
use Rattle.hdr_figures.proofs.classes.Classes.value_at.Goals as goal

pub returns-in-Some : goal.returns-in-Some
unfolding value_at_quantile
returns-in-Some c = λ h a.
    let g = resolution h in
    let q : Ratio = record { num = c.args.num; den = c.args.den } in
    let place = position_of_rank h.counts (rank q h.total) in
    let is : c.rank_of-rank.result ≡ rank q h.total = c.rank_of-rank.ensures.value ∙ ap (rank q) a.total in
    let found : Some c.in-Some.value ≡ option_map (value_of g) place =
    sym c.in-Some.is ∙ c.value_of_rank.ensures g h.counts a.listed.items ∙ ap (λ r. option_map (value_of g) (position_of_rank h.counts r)) is in
    c.top.ensures ∙ ap (λ s. top_of s c.in-Some.value) a.scale ∙ value-some g c.args.num c.in-Some.value place c.requires.some found

pub returns-in-None : goal.returns-in-None
unfolding value_at_quantile
returns-in-None c = λ h a.
    let g = resolution h in
    let q : Ratio = record { num = c.args.num; den = c.args.den } in
    let place = position_of_rank h.counts (rank q h.total) in
    let is : c.rank_of-rank.result ≡ rank q h.total = c.rank_of-rank.ensures.value ∙ ap (rank q) a.total in
    let found : ◌≡◌ {A = Option ℕ} None (option_map (value_of g) place) =
    sym c.in-None.is ∙ c.value_of_rank.ensures g h.counts a.listed.items ∙ ap (λ r. option_map (value_of g) (position_of_rank h.counts r)) is in
    value-none g c.args.num place found
