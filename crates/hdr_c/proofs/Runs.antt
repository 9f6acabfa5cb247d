-- Values that are recorded one after another, one more at a time.
use Rattle.std.proofs.Common.{◌≡◌, ℕ, ◌-◌, ◌^◌, List, [], ◌∷◌, ◌++◌, refl}
use Rattle.hdr_model.specs.Plain.{Plain}
use Rattle.hdr_model.specs.Recording.{after_record}
use Rattle.hdr_c.specs.Runs.{after_values}

pub after_values-push : (vs : List ℕ) (v : ℕ) (h : Plain) → after_values (vs ++ v ∷ []) h ≡ after_record (2 ^ 64 - 1) (after_values vs h) v 1
after_values-push [] v h = refl
after_values-push (w ∷ vs) v h = after_values-push vs v (after_record (2 ^ 64 - 1) h w 1)
