use Rattle.std.proofs.Common.{false}
use Rattle.hdr_c.proofs.Creating.{creates}
use Rattle.hdr_c.proofs.creation.dkap_init.Goals as goal

pub returns : goal.returns
returns c = creates c.store.result c.args.low c.args.high c.args.sigfig false _ _ c.new_with_bounds.result c.new_with_bounds.ensures.made c.store.ensures
