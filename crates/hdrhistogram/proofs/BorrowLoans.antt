-- A `&mut` that a walk by hand lends for one call. The loan has a lifetime of its own, within that of the reference.
-- Assumes `Logic`.
--     lends          the reference and the token of its lifetime become the token of the loan, the loan, and what is kept
--     ends           after the call: the reference at the last value of the loan, and the token
use mathlib.Core.List.{List, [], ◌∷◌}
use Prim.Native.Nat.{ℕ}
use seplogic.Ra.Ura.{Ura}
use mir.Syntax.{Lifetime}
use base.Fraction.{full_share}
use base.FractionLaws.{common}
use base.Share.{left, right}
use base.Fml.{Fml, Lft, Share, GName, flft, fdead, fres}
use base.Logic.{SProp, ent, sep, ex, wand, apply∗}
use contract.BorrowLft.{meet_⊑_left}
use types.Logic.{Logic, sem}
use types.Kit.{Goal, Seq, Soaks, Step, step, Item, ‵, raw, ◌⊛◌, some, later, ◌$◌, ◌∵◌, !, qed, move, use1, use2, use3, split, group, pick, await, updating, now, show, done}
use types.Tokens.{lft_new, lft_end, lft-common}
use denote.Lend.{LentAgain, lends_again, comes_back}
use denote.RattleType.{RattleType}
use denote.Ref.{MutBor, MutRef, mut_vals}

-- how much of it the loan's token is
abbrev pub part : Share → Share
part q = (common full_share (right q)).0

-- the reference, at its machine value
abbrev pub Ref : (R : RattleType) → Lifetime → Lft → MutBor R.Denot → Fml
Ref R ℓ κ x = (MutRef ℓ κ R).own_val x (mut_vals x)

module _ {M : Type 1} {𝓤 : Ura M} (𝓛 : Logic 𝓤) (R : RattleType) (ℓ : Lifetime) (κ : Lft) (q : Share) (x : MutBor R.Denot) where
  open 𝓛 use {H, A}

  module _ (α : ℕ) (δ : GName) where
    abbrev Tokens : SProp 𝓤
    Tokens = sep 𝓤 (A.lft (α ∷ []) full_share) (A.lft κ (right q))

    abbrev Way : SProp 𝓤
    Way = wand 𝓤 (A.lft (α ∷ κ) (part q)) Tokens

    abbrev Lent : Fml
    Lent = LentAgain R κ (α ∷ κ) (left q) x.ghost_name x.ref_ptr.0 x.ref_ptr.1 δ x.now

    abbrev pub Loan : Fml
    Loan = Ref R ℓ (α ∷ κ) (record x { ghost_name = δ })

    -- what is kept while the loan lasts
    abbrev pub Kept : SProp 𝓤
    Kept = sep 𝓤 Way (sem 𝓛 Lent)

    abbrev Begun : SProp 𝓤
    Begun = sep 𝓤 (A.lft (α ∷ κ) (part q)) (sep 𝓤 (sem 𝓛 Loan) Kept)

    loan_ends : (new : R.Denot) → ent 𝓤 (sep 𝓤 (A.lft (α ∷ κ) (part q)) (sep 𝓤 Kept (A.res δ (R.coded.code new)))) (H.⇛ (sep 𝓤 (sem 𝓛 (Ref R ℓ κ (record x { now = new }))) (A.lft κ q)))
    loan_ends new =
        qed 𝓛 (‵ (flft (α ∷ κ) (part q)) ∷ (raw Way ⊛ ‵ Lent) ∷ ‵ (fres δ (R.coded.code new)) ∷ []) ∵ updating ! $ move ! (1 ∷ []) $ split ! $ move ! (2 ∷ 0 ∷ []) $
        use2 𝓛 (‵ (flft (α ∷ []) full_share) ⊛ ‵ (flft κ (right q))) (apply∗ 𝓤 (A.lft (α ∷ κ) (part q)) Tokens) $ split ! $ lft_end ! tt $
        use1 𝓛 (‵ (fdead (α ∷ κ))) (𝓛.lfts.dead-incl (α ∷ κ) (α ∷ []) (meet_⊑_left (α ∷ []) κ)) $ move ! (0 ∷ 2 ∷ 3 ∷ []) $
        use3 𝓛 (later (‵ (Ref R ℓ κ (record x { now = new })) ⊛ ‵ (flft κ (left q)))) (comes_back 𝓛 R ℓ κ (α ∷ κ) (left q) x.ghost_name x.ref_ptr.0 x.ref_ptr.1 δ x.now new) $ await ! tt $ split ! $
        move ! (1 ∷ 2 ∷ []) $ use2 𝓛 (‵ (flft κ q)) (𝓛.lfts.lft_join κ q) $ move ! (1 ∷ 0 ∷ []) $ now ! $ done !

  loan_begins : ent 𝓤 (sep 𝓤 (sem 𝓛 (Ref R ℓ κ x)) (A.lft κ q)) (H.⇛ (ex 𝓤 (λ (α : ℕ). ex 𝓤 (λ (δ : GName). Begun α δ))))
  loan_begins =
      qed 𝓛 (‵ (Ref R ℓ κ x) ∷ ‵ (flft κ q) ∷ []) ∵ updating ! $ lft_new ! tt (λ α.
      move ! (2 ∷ []) $ use1 𝓛 (‵ (flft κ (left q)) ⊛ ‵ (flft κ (right q))) (𝓛.lfts.lft_split κ q) $ split ! $ move ! (3 ∷ 0 ∷ []) $
      use2 𝓛 (later (some (λ (δ : GName). ‵ (Loan α δ) ⊛ ‵ (Lent α δ)))) (lends_again 𝓛 R ℓ κ (α ∷ κ) (left q) x.ghost_name x.ref_ptr.0 x.ref_ptr.1 ℓ x.now) $ await ! tt $ pick ! (λ δ. split ! $
      move ! (3 ∷ 2 ∷ []) $ use2 𝓛 (‵ (flft (α ∷ κ) (part q)) ⊛ raw (Way α δ)) (lft-common 𝓛 (α ∷ []) κ full_share (right q)) $ split ! $
      move ! (0 ∷ 2 ∷ 1 ∷ 3 ∷ []) $ group ! 4 $ now ! $ show ! (λ (α : ℕ). ex 𝓤 (λ (δ : GName). Begun α δ)) α $ show ! (λ (δ : GName). Begun α δ) δ $ done !))

module _ {M : Type 1} {𝓤 : Ura M} {𝓛 : Logic 𝓤} {K : Type 0} {Γ : List (Item 𝓤)} {G : Goal 𝓤 𝓛.H} where
  pub lends : K → Soaks G → (R : RattleType) (ℓ : Lifetime) (κ : Lft) (q : Share) (x : MutBor R.Denot)
      → ((α : ℕ) (δ : GName) → Seq K 𝓛 (‵ (flft (α ∷ κ) (part q)) ∷ ‵ (Loan 𝓛 R ℓ κ q x α δ) ∷ raw (Kept 𝓛 R ℓ κ q x α δ) ∷ Γ) G)
      → Seq K 𝓛 (‵ (Ref R ℓ κ x) ∷ ‵ (flft κ q) ∷ Γ) G
  lends t z R ℓ κ q x k =
      use2 𝓛 (later (some (λ (α : ℕ). some (λ (δ : GName). ‵ (flft (α ∷ κ) (part q)) ⊛ ‵ (Loan 𝓛 R ℓ κ q x α δ) ⊛ raw (Kept 𝓛 R ℓ κ q x α δ))))) (loan_begins 𝓛 R ℓ κ q x) $
      await t z $ pick t (λ α. pick t (λ δ. split t $ move t (1 ∷ []) $ split t $ move t (2 ∷ 0 ∷ 1 ∷ []) $ k α δ))

  pub ends : K → Soaks G → (R : RattleType) (ℓ : Lifetime) (κ : Lft) (q : Share) (x : MutBor R.Denot) (α : ℕ) (δ : GName) (new : R.Denot)
      → Step K 𝓛 (‵ (Ref R ℓ κ (record x { now = new })) ∷ ‵ (flft κ q) ∷ Γ) G
      (‵ (flft (α ∷ κ) (part q)) ∷ raw (Kept 𝓛 R ℓ κ q x α δ) ∷ ‵ (fres δ (R.coded.code new)) ∷ Γ) G
  ends t z R ℓ κ q x α δ new = step (λ s.
      use3 𝓛 (later (‵ (Ref R ℓ κ (record x { now = new })) ⊛ ‵ (flft κ q))) (loan_ends 𝓛 R ℓ κ q x α δ new) $ await t z $ split t $ s)
