use Rattle.std.proofs.Common.{true}
use Rattle.hdr_c.proofs.Creating.{creates}
use Rattle.hdr_c.proofs.creation.dkap_init_auto.Goals as goal

pub returns : goal.returns
returns c = creates c.store.result 1 2 c.args.sigfig true _ _ c.new.result c.new.ensures.made c.store.ensures
