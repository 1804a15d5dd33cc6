-- NO SECOND ANSWER fits the contract of a call, and no second content of a lent buffer or record. Assumes nothing.
use mathlib.Core.Path.{◌≡◌, sym, ◌∙◌}
use seplogic.Ra.Ura.{Ura}
use base.Logic.{SProp, ent}
use prog.Memory.{Memory}
use prog.Routine.{Routine}
use types.Logic.{Logic}
use contract.Monad.{Fun, conj, conj_l, conj_r, fact, fact_i, fact_use}
use borrow.Fn.World.{ArgsD, ResD}
use borrow.Fn.Kinds.{ended_of}
use contract.Lifetimes.{Lfts}
use denote.Triple.Entry.{Args, Res}
use denote.Triple.Clauses.{AtExit}
use Rattle.sheet_engine.specs.contracts.read_sheet as read_sheet_contract
use Rattle.sheet_engine.proofs.read_sheet.Reads as read_sheet_reads
use Rattle.sheet_engine.proofs.read_sheet.Kinds as read_sheet_kinds
use Rattle.sheet_engine.specs.contracts.settings_part as settings_part_contract
use Rattle.sheet_engine.proofs.settings_part.Reads as settings_part_reads
use Rattle.sheet_engine.proofs.settings_part.Kinds as settings_part_kinds
use Rattle.sheet_engine.specs.contracts.terms_part as terms_part_contract
use Rattle.sheet_engine.proofs.terms_part.Reads as terms_part_reads
use Rattle.sheet_engine.proofs.terms_part.Kinds as terms_part_kinds
use Rattle.sheet_engine.specs.contracts.conditions_part as conditions_part_contract
use Rattle.sheet_engine.proofs.conditions_part.Reads as conditions_part_reads
use Rattle.sheet_engine.proofs.conditions_part.Kinds as conditions_part_kinds
use Rattle.sheet_engine.specs.contracts.judge_table as judge_table_contract
use Rattle.sheet_engine.proofs.judge_table.Reads as judge_table_reads
use Rattle.sheet_engine.proofs.judge_table.Kinds as judge_table_kinds
use Rattle.sheet_engine.specs.contracts.write_sheet as write_sheet_contract
use Rattle.sheet_engine.proofs.write_sheet.Reads as write_sheet_reads
use Rattle.sheet_engine.proofs.write_sheet.Kinds as write_sheet_kinds
use Rattle.sheet_engine.specs.contracts.give_verdict as give_verdict_contract
use Rattle.sheet_engine.proofs.give_verdict.Reads as give_verdict_reads
use Rattle.sheet_engine.proofs.give_verdict.Kinds as give_verdict_kinds
use Rattle.sheet_engine.specs.contracts.start as start_contract
use Rattle.sheet_engine.proofs.start.Reads as start_reads
use Rattle.sheet_engine.proofs.start.Kinds as start_kinds
use Rattle.sheet_engine.specs.contracts.acts_left as acts_left_contract
use Rattle.sheet_engine.proofs.acts_left.Reads as acts_left_reads
use Rattle.sheet_engine.proofs.acts_left.Kinds as acts_left_kinds
use Rattle.sheet_engine.specs.contracts.links_unset as links_unset_contract
use Rattle.sheet_engine.proofs.links_unset.Reads as links_unset_reads
use Rattle.sheet_engine.proofs.links_unset.Kinds as links_unset_kinds
use Rattle.sheet_engine.specs.contracts.step_kind as step_kind_contract
use Rattle.sheet_engine.proofs.step_kind.Reads as step_kind_reads
use Rattle.sheet_engine.proofs.step_kind.Kinds as step_kind_kinds
use Rattle.sheet_engine.specs.contracts.take_step as take_step_contract
use Rattle.sheet_engine.proofs.take_step.Reads as take_step_reads
use Rattle.sheet_engine.proofs.take_step.Kinds as take_step_kinds
use Rattle.sheet_engine.specs.contracts.list_steps as list_steps_contract
use Rattle.sheet_engine.proofs.list_steps.Reads as list_steps_reads
use Rattle.sheet_engine.proofs.list_steps.Kinds as list_steps_kinds
use Rattle.sheet_engine.specs.contracts.standing as standing_contract
use Rattle.sheet_engine.proofs.standing.Reads as standing_reads
use Rattle.sheet_engine.proofs.standing.Kinds as standing_kinds
use Rattle.sheet_engine.specs.contracts.waits_for as waits_for_contract
use Rattle.sheet_engine.proofs.waits_for.Reads as waits_for_reads
use Rattle.sheet_engine.proofs.waits_for.Kinds as waits_for_kinds
use Rattle.sheet_engine.specs.contracts.compact as compact_contract
use Rattle.sheet_engine.proofs.compact.Reads as compact_reads
use Rattle.sheet_engine.proofs.compact.Kinds as compact_kinds
use Rattle.sheet_engine.specs.contracts.damage_sheet as damage_sheet_contract
use Rattle.sheet_engine.proofs.damage_sheet.Reads as damage_sheet_reads
use Rattle.sheet_engine.proofs.damage_sheet.Kinds as damage_sheet_kinds
use Rattle.sheet_engine.specs.contracts.step_in_place as step_in_place_contract

pub read_sheet_one : (κs : Lfts 1) (a : ArgsD read_sheet_contract.signature κs) (z z' : AtExit (ended_of 1 read_sheet_kinds.ps read_sheet_kinds.r) κs) (r r' : ResD read_sheet_contract.signature κs) → read_sheet_reads.Post κs a r z → read_sheet_reads.Post κs a r' z' → r ≡ r'
read_sheet_one κs a z z' r r' p q = p.0 ∙ sym q.0

pub settings_part_one : (κs : Lfts 1) (a : ArgsD settings_part_contract.signature κs) (z z' : AtExit (ended_of 1 settings_part_kinds.ps settings_part_kinds.r) κs) (r r' : ResD settings_part_contract.signature κs) → settings_part_reads.Post κs a r z → settings_part_reads.Post κs a r' z' → r.now ≡ r'.now
settings_part_one κs a z z' r r' p q = p ∙ sym q

pub terms_part_one : (κs : Lfts 1) (a : ArgsD terms_part_contract.signature κs) (z z' : AtExit (ended_of 1 terms_part_kinds.ps terms_part_kinds.r) κs) (r r' : ResD terms_part_contract.signature κs) → terms_part_reads.Post κs a r z → terms_part_reads.Post κs a r' z' → r.now ≡ r'.now
terms_part_one κs a z z' r r' p q = p ∙ sym q

pub conditions_part_one : (κs : Lfts 1) (a : ArgsD conditions_part_contract.signature κs) (z z' : AtExit (ended_of 1 conditions_part_kinds.ps conditions_part_kinds.r) κs) (r r' : ResD conditions_part_contract.signature κs) → conditions_part_reads.Post κs a r z → conditions_part_reads.Post κs a r' z' → r.now ≡ r'.now
conditions_part_one κs a z z' r r' p q = p ∙ sym q

pub judge_table_one : (κs : Lfts 2) (a : ArgsD judge_table_contract.signature κs) (z z' : AtExit (ended_of 2 judge_table_kinds.ps judge_table_kinds.r) κs) (r r' : ResD judge_table_contract.signature κs) → judge_table_reads.Post κs a r z → judge_table_reads.Post κs a r' z' → r ≡ r'
judge_table_one κs a z z' r r' p q = p ∙ sym q

pub write_sheet_one : (κs : Lfts 3) (a : ArgsD write_sheet_contract.signature κs) (z z' : AtExit (ended_of 3 write_sheet_kinds.ps write_sheet_kinds.r) κs) (r r' : ResD write_sheet_contract.signature κs) → write_sheet_reads.Post κs a r z → write_sheet_reads.Post κs a r' z' → (r ≡ r') × (z.1.0.now ≡ z'.1.0.now)
write_sheet_one κs a z z' r r' p q = (p.0 ∙ sym q.0, p.1 ∙ sym q.1)

pub give_verdict_one : (κs : Lfts 2) (a : ArgsD give_verdict_contract.signature κs) (z z' : AtExit (ended_of 2 give_verdict_kinds.ps give_verdict_kinds.r) κs) (r r' : ResD give_verdict_contract.signature κs) → give_verdict_reads.Post κs a r z → give_verdict_reads.Post κs a r' z' → r ≡ r'
give_verdict_one κs a z z' r r' p q = p ∙ sym q

pub start_one : (κs : Lfts 2) (a : ArgsD start_contract.signature κs) (z z' : AtExit (ended_of 2 start_kinds.ps start_kinds.r) κs) (r r' : ResD start_contract.signature κs) → start_reads.Post κs a r z → start_reads.Post κs a r' z' → r ≡ r'
start_one κs a z z' r r' p q = p ∙ sym q

pub acts_left_one : (κs : Lfts 0) (a : ArgsD acts_left_contract.signature κs) (z z' : AtExit (ended_of 0 acts_left_kinds.ps acts_left_kinds.r) κs) (r r' : ResD acts_left_contract.signature κs) → acts_left_reads.Post κs a r z → acts_left_reads.Post κs a r' z' → r ≡ r'
acts_left_one κs a z z' r r' p q = p ∙ sym q

pub links_unset_one : (κs : Lfts 0) (a : ArgsD links_unset_contract.signature κs) (z z' : AtExit (ended_of 0 links_unset_kinds.ps links_unset_kinds.r) κs) (r r' : ResD links_unset_contract.signature κs) → links_unset_reads.Post κs a r z → links_unset_reads.Post κs a r' z' → r ≡ r'
links_unset_one κs a z z' r r' p q = p ∙ sym q

pub step_kind_one : (κs : Lfts 2) (a : ArgsD step_kind_contract.signature κs) (z z' : AtExit (ended_of 2 step_kind_kinds.ps step_kind_kinds.r) κs) (r r' : ResD step_kind_contract.signature κs) → step_kind_reads.Post κs a r z → step_kind_reads.Post κs a r' z' → r ≡ r'
step_kind_one κs a z z' r r' p q = p.0 ∙ sym q.0

pub take_step_one : (κs : Lfts 2) (a : ArgsD take_step_contract.signature κs) (z z' : AtExit (ended_of 2 take_step_kinds.ps take_step_kinds.r) κs) (r r' : ResD take_step_contract.signature κs) → take_step_reads.Post κs a r z → take_step_reads.Post κs a r' z' → r ≡ r'
take_step_one κs a z z' r r' p q = p.0 ∙ sym q.0

-- ... and no second content of the lent buffer
pub list_steps_one : (κs : Lfts 3) (a : ArgsD list_steps_contract.signature κs) (z z' : AtExit (ended_of 3 list_steps_kinds.ps list_steps_kinds.r) κs) (r r' : ResD list_steps_contract.signature κs) → list_steps_reads.Post κs a r z → list_steps_reads.Post κs a r' z' → (r ≡ r') × (z.1.1.0.now ≡ z'.1.1.0.now)
list_steps_one κs a z z' r r' p q = (p.0.0 ∙ sym q.0.0, p.0.1 ∙ sym q.0.1)

pub standing_one : (κs : Lfts 3) (a : ArgsD standing_contract.signature κs) (z z' : AtExit (ended_of 3 standing_kinds.ps standing_kinds.r) κs) (r r' : ResD standing_contract.signature κs) → standing_reads.Post κs a r z → standing_reads.Post κs a r' z' → (r ≡ r') × (z.1.1.0.now ≡ z'.1.1.0.now)
standing_one κs a z z' r r' p q = (p.0.0 ∙ sym q.0.0, p.0.1 ∙ sym q.0.1)

pub waits_for_one : (κs : Lfts 3) (a : ArgsD waits_for_contract.signature κs) (z z' : AtExit (ended_of 3 waits_for_kinds.ps waits_for_kinds.r) κs) (r r' : ResD waits_for_contract.signature κs) → waits_for_reads.Post κs a r z → waits_for_reads.Post κs a r' z' → (r ≡ r') × (z.1.1.0.now ≡ z'.1.1.0.now)
waits_for_one κs a z z' r r' p q = (p.0.0 ∙ sym q.0.0, p.0.1 ∙ sym q.0.1)

pub compact_one : (κs : Lfts 3) (a : ArgsD compact_contract.signature κs) (z z' : AtExit (ended_of 3 compact_kinds.ps compact_kinds.r) κs) (r r' : ResD compact_contract.signature κs) → compact_reads.Post κs a r z → compact_reads.Post κs a r' z' → (r ≡ r') × (z.1.1.0.now ≡ z'.1.1.0.now)
compact_one κs a z z' r r' p q = (p.0.0 ∙ sym q.0.0, p.0.1 ∙ sym q.0.1)

pub damage_sheet_one : (κs : Lfts 3) (a : ArgsD damage_sheet_contract.signature κs) (z z' : AtExit (ended_of 3 damage_sheet_kinds.ps damage_sheet_kinds.r) κs) (r r' : ResD damage_sheet_contract.signature κs) → damage_sheet_reads.Post κs a r z → damage_sheet_reads.Post κs a r' z' → (r ≡ r') × (z.1.1.0.now ≡ z'.1.1.0.now)
damage_sheet_one κs a z z' r r' p q = (p.0 ∙ sym q.0, p.1 ∙ sym q.1)

-- ... and no second content of the caller's state record: said in the logic of the contract, at every model
module _ {M : Type 1} {𝓤 : Ura M} (𝓛 : Logic 𝓤) (at_mem : Memory → SProp 𝓤) (run : Routine → Fun 𝓤) (κs : Lfts 3) (a : Args step_in_place_contract.signature κs) where
  abbrev Told : Res step_in_place_contract.signature κs → AtExit step_in_place_contract.ended κs → SProp 𝓤
  Told r z = (step_in_place_contract.clauses 𝓛 at_mem run κs a).ensures tt r z

  pub step_in_place_one : (z z' : AtExit step_in_place_contract.ended κs) (r r' : Res step_in_place_contract.signature κs) → ent 𝓤 (conj 𝓤 (Told r z) (Told r' z')) (fact 𝓤 ((r ≡ r') × (z.0.now ≡ z'.0.now)))
  step_in_place_one z z' r r' =
      fact_use 𝓤 _ (conj_l 𝓤 (Told r z) (Told r' z'))
      (λ p. fact_use 𝓤 _ (conj_r 𝓤 (Told r z) (Told r' z')) (λ q. fact_i 𝓤 _ _ (p.0 ∙ sym q.0, p.1 ∙ sym q.1)))
