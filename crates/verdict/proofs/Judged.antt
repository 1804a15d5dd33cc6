-- ACCEPTANCE gives what the verdict rests on. Assumes nothing.
use mathlib.Core.Path.{◌≡◌}
use Rattle.sheet.specs.Table.{Table}
use Rattle.sheet.specs.Rules.{refusal_of}
use Rattle.sheet.proofs.Accepted.{Meets, meets, well_formed, narrow_joins}
use Rattle.verdict.specs.Verdict.{Judged}

pub meets_judged : (t : Table) → Meets t → Judged t
meets_judged t g =
    let w = well_formed t g in
    record {
      lent_terms = w.terms_lent;
      lent_conditions = w.conditions_lent;
      few_terms = w.few_terms;
      few_conditions = w.few_conditions;
      few_links = w.few_links;
      join_below_k = w.joins;
      link_below_m = w.links;
      eight_links = narrow_joins t g;
    }

pub accepted_judged : (t : Table) → (refusal_of t).number ≡ 0 → Judged t
accepted_judged t e = meets_judged t (meets t e)
