use Rattle.hdr_model.specs.Recording.{clamp_to_bins}
use Rattle.hdr_model.proofs.RecordingStands.{StandsFor-recorded}
use Rattle.hdr_model.proofs.RecordingClears.{clamped-small}
use Rattle.hdr_model.proofs.MergingCorrects.{StandsFor-one-corrected}
use Rattle.hdr_model.proofs.laws.recording_stands.Goals as goal

pub returns-clause-recorded : goal.returns-clause-recorded
returns-clause-recorded c = λ greatest h p v n small S. StandsFor-recorded greatest h v n S small p

pub returns-clause-clamped : goal.returns-clause-clamped
returns-clause-clamped c = λ greatest h p v n small S. StandsFor-recorded greatest h (clamp_to_bins h v) n S (clamped-small greatest h v small p) p

pub returns-clause-corrected : goal.returns-clause-corrected
returns-clause-corrected c = λ greatest h p v n i small one S. StandsFor-one-corrected greatest h v n i S small one p
