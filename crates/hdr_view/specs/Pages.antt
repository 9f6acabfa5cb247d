-- What a page shows of the intervals of logs.
use Rattle.std.specs.Prelude.{◌≡◌, List, Option, length}
use Rattle.std.specs.List.{AllZip}
use Rattle.hdr_logs.specs.declared.stored.StoredInterval.{StoredInterval}
use Rattle.hdr_figures.specs.TagSums.{AreSumsOf}
use Rattle.hdr_verdict.specs.Verdicts.{IsVerdictOf}
use Rattle.hdr_verdict.specs.declared.incident.Incident.{Incident}
use Rattle.hdr_verdict.specs.declared.level.TailLevel.{TailLevel}
use Rattle.hdr_view.specs.Naming.{IsNaming}
use Rattle.hdr_view.specs.Order.{AreAt, first_tags, indices_of, with_others}
use Rattle.hdr_view.specs.Views.{IsLevelOf}
use Rattle.hdr_view.specs.declared.options.PageOptions.{PageOptions}
use Rattle.hdr_view.specs.declared.view.PageForm.{PageForm}
use Rattle.hdr_view.specs.declared.view.View.{View}

-- the figures and the verdict are those of the intervals, with letters for the incidents of the verdict. Tags are in
-- the order of the incidents with letters, and then as in the verdict
pub record IsViewOf (intervals : List StoredInterval) (options : PageOptions) (form : PageForm) (view : View) : Type 0 where
  pub is_by : view.options ≡ options
  pub has_form : view.form ≡ form
  pub count : view.intervals ≡ length intervals
  pub figures : AreSumsOf intervals options.levels.now view.log
  pub levels : List (Option TailLevel)
  pub are_levels : AllZip IsLevelOf options.levels.now levels
  pub verdict : IsVerdictOf intervals levels view.verdict
  pub naming : IsNaming view.verdict.incidents.items view.naming
  pub named : List Incident
  pub are_named : AreAt (indices_of view.naming.named.items) view.verdict.incidents.items named
  pub order : view.order.items ≡ with_others (length view.verdict.tags.items) (first_tags (length view.verdict.tags.items) named)
