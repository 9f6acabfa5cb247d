-- The text of a tag.
use Rattle.std.specs.Prelude.{ℕ, List}
use Rattle.hdr_log.specs.declared.tag.Tag.{Tag}

abbrev pub tag_text : Tag → List ℕ
tag_text tag = tag.text.now
