-- The runs of the compacted table over the calls, beside those from the old state; and the runs of tables for which the calls answer alike. Assumes nothing.
use Rattle.std.specs.Result.{is_ok}
use Rattle.std.specs.Prelude.{Result}
use Prim.Native.Nat.{ℕ}
use mathlib.Core.Path.{◌≡◌, refl, sym, ◌∙◌, ap, ap₂, subst, subst₂, fun_ext}
use mathlib.Core.List.{List, [], ◌∷◌, map, Memᴰ}
use lib.ListN.{length, take, replicate}
use Rattle.calculus.specs.Status.{Links}
use Rattle.conditions.specs.Numbers.{digit}
use Rattle.sheet.specs.declared.Refusal.{Refusal}
use Rattle.sheet.specs.Table.{Table}
use Rattle.sheet.specs.Rules.{refuse, refusal_of}
use Rattle.sheet.proofs.Accepted.{Meets, meets}
use Rattle.sheet.proofs.Beyond.{meets_accepted}
use Rattle.state.specs.declared.State.{State}
use Rattle.moves.specs.Steps.{kind_at, listed_of, Kind}
use Rattle.moves.specs.Runs.{Run as Steps, taken as steps_taken}
use Rattle.moves.proofs.Allowed.{listed_rows_law}
use Rattle.compacted.specs.Compacted.{rank, compacted, restarted, reranked}
use Rattle.compacted.proofs.Compacted.{compacted_meets, compacted_fits}
use Rattle.compacted.proofs.Matched.{Follows, follows_first, step_follows, lists_follow, run_kept, run_back, run_forth}
use Rattle.engine.specs.declared.Stepped.{Stepped}
use Rattle.promises.specs.Calls.{Accepted, SameAnswers, count_of, listed_in, link, listed_steps, Run, done, more, taken, last}
use Rattle.promises.specs.Compacted.{Matches}
use Rattle.promises.proofs.Calls.{to_steps, from_steps, run_keeps}
use Rattle.promises.proofs.Alike.{with_kinds, steps_are, link_is}

-- rows that are renumbered, with kinds that agree
ranked_steps : (ρ : ℕ → ℕ) (K K' : ℕ → Kind) (l : List ℕ) → ((r : ℕ) → Memᴰ r l → K' (ρ r) ≡ K r) → with_kinds K' (map ρ l) ≡ map (reranked ρ) (with_kinds K l)
ranked_steps ρ K K' [] f = refl
ranked_steps ρ K K' (r ∷ l) f = λ j. record { row = ρ r; kind = f r (Memᴰ.head refl) j } ∷ ranked_steps ρ K K' l (λ k m. f k (Memᴰ.tail m)) j

-- THE COMPACTED TABLE and the state that goes with it
module _ (t : Table) (s : State) (a : Accepted t s) where
  abbrev g : Meets t
  g = meets t a.table

  abbrev t' : Table
  t' = compacted t s

  abbrev s' : State
  s' = restarted t s

  pub compacted_accepted : Accepted t' s'
  unfolding refusal_of
  compacted_accepted = record {
    table = ap (λ (r : Refusal). r.number) (meets_accepted refuse (refuse 0 0) t' (compacted_meets t g s));
    mode = a.mode;
    fits = compacted_fits t g s a.fits;
    sized = record { all_marks = refl; all_links = a.sized.all_links };
  }

  -- states that follow each other list the same
  module _ (z z' : State) (f : Follows t g s z z') (b : Accepted t z) (b' : Accepted t' z') where
    same_lists : listed_steps t' z' ≡ map (reranked (rank t s)) (listed_steps t z)
    same_lists =
        steps_are t' z' b' ∙
        (ap (with_kinds (kind_at t' z')) (lists_follow t g s z z' f) ∙
        (ranked_steps (rank t s) (kind_at t z) (kind_at t' z') (listed_of t z) (λ r m. (step_follows t g s z z' f r ((listed_rows_law t z r).0 m)).1) ∙
        ap (map (reranked (rank t s))) (sym (steps_are t z b))))

    same_links : (l : ℕ) → link z' l ≡ link z l
    same_links l = link_is t' z' b' l ∙ (ap (λ (v : Links). digit (v l)) f.sets ∙ sym (link_is t z b l))

  -- runs of the calls that run as two of `moves` do
  matched : (G : Run t' s') (H : Run t s) (R : Steps t s) → steps_taken R ≡ taken H → taken G ≡ map (reranked (rank t s)) (taken H) → Follows t g s (last H) (last G) → Matches G H
  matched G H R p e f =
      let b = run_keeps a H in
      let b' = run_keeps compacted_accepted G in
      record {
        kept = λ x m. run_kept t g s (follows_first t g s a.sized) R x (subst (Memᴰ x) (sym p) m);
        steps = e;
        lists = same_lists (last H) (last G) f b b';
        links = same_links (last H) (last G) f b b';
      }

  -- every run of the one has a run of the other
  pub matched_back : (G : Run t' s') → (H : Run t s) × Matches G H
  matched_back G =
      let (R, p, q) = to_steps compacted_accepted G in
      let (S, e, f) = run_back t g s (follows_first t g s a.sized) R in
      let (H, p', q') = from_steps a S in
      (H, matched G H S (sym p') (sym p ∙ (e ∙ ap (map (reranked (rank t s))) (sym p'))) (subst₂ (Follows t g s) (sym q') q f))

  pub matched_forth : (H : Run t s) → (G : Run t' s') × Matches G H
  matched_forth H =
      let (S, p, q) = to_steps a H in
      let (R, e, f) = run_forth t g s (follows_first t g s a.sized) S in
      let (G, p', q') = from_steps compacted_accepted R in
      (G, matched G H S p (p' ∙ (e ∙ ap (map (reranked (rank t s))) p)) (subst₂ (Follows t g s) q (sym q') f))

-- tables for which the calls answer alike have the same lists and the same runs
module _ (t t' : Table) (same : SameAnswers t t') where
  rows_alike : (s : State) (lent : List ℕ) → listed_in t s lent ≡ listed_in t' s lent
  unfolding listed_in
  rows_alike s lent = ap₂ (λ (n : Result ℕ Refusal) (out : List ℕ). take (count_of n) out) (same.listed s (length lent)) (same.buffer s lent)

  pub lists_alike : (s : State) → listed_steps t s ≡ listed_steps t' s
  lists_alike s = ap₂ with_kinds (fun_ext (same.kind s)) (rows_alike s (replicate 256 0))

  pub run_alike : {s : State} (G : Run t s) → (H : Run t' s) × (taken H ≡ taken G) × (last H ≡ last G)
  unfolding taken last
  run_alike done = (done, refl, refl)
  run_alike {s} (more row listed ok G) =
      let e = same.stepped s row in
      let (H, p, q) = subst (λ (z : State). (H : Run t' z) × (taken H ≡ taken G) × (last H ≡ last G)) (ap (λ (k : Stepped). k.state) e) (run_alike G) in
      (more row (subst (Memᴰ row) (rows_alike s (replicate 256 0)) listed) (sym (ap (λ (k : Stepped). is_ok k.answer) e) ∙ ok) H, (λ i. record { row = row; kind = sym (ap (λ (k : Stepped). k.answer) e) i } ∷ p i), q)
