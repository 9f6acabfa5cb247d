use Rattle.hdr_tool.proofs.LogMergesStands.{ReadsStand, JoinedStand, same_unit, whole_way}
use Rattle.hdr_tool.proofs.laws.log_merge_stands.Goals as goal

pub returns : goal.returns
returns c = λ log merge sigfig fewer options quantiles input written text fault Ls tl tm fine ends fits wrote merged.
    let joined : JoinedStand = record { bounds = c.adding_keeps.ensures.merged_bounds; sum = c.joined_stands.ensures.sum; ranked = c.joined_stands.ensures.ranked } in
    let back : ReadsStand = record { plain = c.read_back_stands.ensures.plain; classes = c.read_back_stands.ensures.classes; samples = c.read_back_stands.ensures.samples } in
    let finer = c.finer_classes.ensures.finer 1 sigfig 1 fewer (same_unit sigfig fewer) fine in
    let w = whole_way log merge sigfig fewer options quantiles input written text fault Ls c.new_is_plain.ensures c.ends_stand.ensures c.log_then_merge.ensures joined back (λ n. c.clearing_stands.ensures.made 1 2 n _) finer tl tm ends fits wrote merged in
    (w.0, (w.1.histogram, w.1.low, w.1.sigfig, w.1.report, w.1.stands, w.1.ranked))
