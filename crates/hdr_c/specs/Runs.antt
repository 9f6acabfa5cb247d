-- Values that are recorded one after another.
use Rattle.std.specs.Prelude.{ℕ, ◌-◌, ◌^◌, List, [], ◌∷◌}
use Rattle.hdr_model.specs.Plain.{Plain}
use Rattle.hdr_model.specs.Recording.{after_record}

-- the histogram after each value was recorded once
abbrev pub after_values : List ℕ → Plain → Plain
after_values [] h = h
after_values (v ∷ vs) h = after_values vs (after_record (2 ^ 64 - 1) h v 1)
