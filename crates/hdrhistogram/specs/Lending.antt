-- What the serializer holds once the borrow of its bytes has ended.
use Rattle.std.specs.Prelude.{◌≡◌, ℕ, List, [], Result, MatchResult, ⊤}
use Rattle.std.specs.Borrow.{Fml, Bor, MutBor, follows_so}
use mathlib.Core.Option.{none}
use Rattle.hdrhistogram.specs.contracts.serialization.v2_serializer.V2Serializer.{the_row}

-- it holds the bytes that were borrowed, and after an error it holds none
abbrev pub ends_lending : {E : Type 0} → MutBor (List ℕ) → Result (Bor (List ℕ)) E → Fml
ends_lending s r =
    follows_so the_row the_row s.ghost_name none (λ _ _. ⊤)
    (λ after. MatchResult r (λ bytes. after ≡ bytes.now) (λ _. after ≡ []))
