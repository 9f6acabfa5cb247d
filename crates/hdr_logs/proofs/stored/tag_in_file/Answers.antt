use Rattle.std.proofs.Common.{◌≡◌, ◌++◌, ◌&&◌, Bool, true, false, ℕ, List, refl, sym, ap₂, subst, ◌∙◌, arith, string_bytes}
use Rattle.std.specs.Char.{encode_utf8}
use Rattle.std.specs.List.{list_all}
use Rattle.std.proofs.lemmas.List.Folds.{list_all-append}
use Rattle.std.proofs.lemmas.Str.{is_utf8-from_IsUtf8, IsUtf8-string_bytes}
use Rattle.hdr_log.specs.Grammar.{is_tag_byte}
use Rattle.hdr_logs.proofs.stored.tag_in_file.Goals.{then-is_some+in_ok-push, else-is_some}
use Rattle.hdr_logs.proofs.stored.tag_in_file.Goals as goal

abbrev AreTagBytes : List ℕ → Type 0
AreTagBytes text = list_all is_tag_byte text ≡ true

both : (a b : Bool) → (a && b) ≡ true → b ≡ true
both true b e = e
both false b e = cc

joined : (one other : List ℕ) → AreTagBytes one → AreTagBytes other → AreTagBytes (one ++ other)
joined one other p q = list_all-append is_tag_byte one other ∙ ap₂ ◌&&◌ p q

pub returns-clause-allowed : goal.returns-clause-allowed
returns-clause-allowed c =
    let text = string_bytes c.push_str.new.self in
    let own : AreTagBytes (string_bytes c.in_ok-text.text) = subst AreTagBytes (sym c.in_ok-text.ensures.ok) (both _ _ c.text_of.ensures.allowed) in
    let name : AreTagBytes c.as_str.result.now = both _ _ c.as_str.ensures.tag in
    let before : AreTagBytes (string_bytes c.if-is_some.text) = elim c.if-is_some.branch [
      | then-is_some+in_ok-push w ↦
          let at : AreTagBytes (encode_utf8 64) = subst AreTagBytes (sym (w.push.ensures.ascii (omega arith))) refl in
          rw w.text-is (subst AreTagBytes (sym w.in_ok-push.ensures.bytes) (joined (string_bytes c.in_ok-text.text) (encode_utf8 64) own at))
      | else-is_some w ↦ rw w.text-is own
    ] in
    let all : AreTagBytes text = subst AreTagBytes (sym c.in_ok-push_str.ensures.bytes) (joined (string_bytes c.if-is_some.text) c.as_str.result.now before name) in
    ap₂ ◌&&◌ (is_utf8-from_IsUtf8 text (IsUtf8-string_bytes c.push_str.new.self)) all
