use Rattle.std.proofs.Common.{rules, ◌≡◌, ◌∙◌, ◌+◌, ◌-◌, ◌^◌, refl}
use Rattle.std.specs.Option.{MatchOption}
use Rattle.hdr_core.proofs.RestatedMarks.{top_made, lower_made}
use Rattle.hdr_core.proofs.marks.Marks.new.Goals as goal

pub returns : goal.returns
returns c =
    let top : MatchOption c.args.top (c.map_or-classes.result ≡ 0) (λ i. c.map_or-classes.result ≡ i + 1) = search rules in
    let lower : MatchOption c.args.lower (c.map_or-before.result ≡ 2 ^ 64 - 1) (λ i. c.map_or-before.result ≡ i - 1) = search rules in
    c.kept.ensures ∙ rw (top_made c.args.top c.map_or-classes.result top, lower_made c.args.lower c.map_or-before.result c.requires.lower lower) refl
