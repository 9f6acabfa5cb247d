use Rattle.hdr_c.proofs.Values.{no_values}
use Rattle.hdr_c.proofs.percentiles.store_values.Goals as goal

pub loop-at-init : goal.loop-at-init
loop-at-init c = no_values _ _ _ _
