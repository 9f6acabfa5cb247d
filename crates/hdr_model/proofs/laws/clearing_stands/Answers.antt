use Rattle.hdr_model.proofs.RecordingClears.{stands-made, stands-cleared, stands-restarted}
use Rattle.hdr_model.proofs.laws.clearing_stands.Goals as goal

pub returns-clause-made : goal.returns-clause-made
returns-clause-made c = λ low high sigfig auto_resize. stands-made low high sigfig auto_resize

pub returns-clause-cleared : goal.returns-clause-cleared
returns-clause-cleared c = λ h. stands-cleared h

pub returns-clause-restarted : goal.returns-clause-restarted
returns-clause-restarted c = λ h. stands-restarted h
