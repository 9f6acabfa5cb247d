use Rattle.std.proofs.Common.{◌-◌, ◌^◌, [], ◌∷◌, lit≤}
use Rattle.hdr_base.specs.Classes.{resolution_of}
use Rattle.hdrhistogram.specs.Chosen.{is_chosen}
use Rattle.hdr_tool.specs.Arguments.{no_options}
use Rattle.hdr_surface.specs.Overflows.{past_the_end, before_a_clear}
use Rattle.hdr_surface.proofs.OverflowsMerged.{one_fits, the_end, past_ends, cleared_ends}
use Rattle.hdr_surface.proofs.lawful.overflow_past_the_ends.Goals as goal

pub returns-clause-past : goal.returns-clause-past
unfolding is_chosen
returns-clause-past c = λ log merge sigfig fewer quantiles written text fault tl tm fine wrote merged.
    let w = c.log_merge_stands.ensures log merge sigfig fewer no_options quantiles past_the_end written text fault (the_end ∷ []) tl tm fine
    (past_ends (resolution_of 1 sigfig)) (one_fits (2 ^ 64 - 1) (resolution_of 1 fewer) (lit≤ tt)) wrote merged in
    (w.0, (w.1.0, w.1.3, w.1.4))

pub returns-clause-cleared : goal.returns-clause-cleared
unfolding is_chosen
returns-clause-cleared c = λ log merge sigfig fewer quantiles written text fault tl tm fine wrote merged.
    let w = c.log_merge_stands.ensures log merge sigfig fewer no_options quantiles before_a_clear written text fault (the_end ∷ []) tl tm fine
    (cleared_ends (resolution_of 1 sigfig)) (one_fits (2 ^ 64 - 1) (resolution_of 1 fewer) (lit≤ tt)) wrote merged in
    (w.0, (w.1.0, w.1.3, w.1.4))
