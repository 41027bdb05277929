-- The last word of an end is the last one that was loaded there.
use Rattle.std.proofs.Common.{◌≡◌, ◌≢◌, ℕ, true, false, List, [], ◌∷◌, ◌++◌, cond, eqb, zero, suc, slice_get, inl, inr, refl, sym, ap, subst, ◌∙◌}
use Rattle.std.proofs.lemmas.Bool.{cases_Bool, eqb-true, eq-eqb}
use Rattle.std.specs.declared.option.Option.{Option}
use Rattle.std.specs.declared.option.Option.TheVariants.{None, Some}
use Rattle.ghost_links.specs.declared.view.End.{End}
use Rattle.ghost_links.specs.Ends.{Each, EndMap, end_count, end_in, occurrences, receiving_end, sending_end, with_change}
use Rattle.ghost_links.specs.Steps.{HasLoadedWords, Loads, RunSeat, Runs, last_loaded, run_seat, with_load}
use Rattle.ghost_links.specs.Steps.Runs.{Made, SenderLoaded, ReceiverLoaded, DataLoaded, DataStored, SenderStored, ReceiverStored, Split, Joined}
use Rattle.std.specs.List.{slice_set}
use Rattle.ghost_links.specs.Views.{after_receiver_load, after_sender_load, is_even, spent_view}
use Rattle.ghost_links.proofs.MapLemmas.{each_restriction, either_end, end_in_append, end_in_changed, end_in_changed_else, mapped, new_end}

-- the last word of each end of a map is the last one that was loaded there
abbrev AreLoaded : Loads → EndMap → Type 0
AreLoaded loads m = Each (λ x e. e.last ≡ last_loaded (loads x)) m

same_end : (d e : End) → Some d ≡ Some e → d ≡ e
same_end d e is = cc

changed_word : (f : End → End) (word : ℕ) (found : Option End) (e : End) → ((d : End) → (f d).last ≡ Some word) → mapped f found ≡ Some e → e.last ≡ Some word
changed_word f word None e gives is = cc
changed_word f word (Some d) e gives is = ap (λ z. z.last) (sym (same_end (f d) e is)) ∙ gives d

kept_word : (f : End → End) (last : Option ℕ) (found : Option End) (e : End) → ((d : End) → (f d).last ≡ d.last) → ((d : End) → found ≡ Some d → d.last ≡ last)
    → mapped f found ≡ Some e → e.last ≡ last
kept_word f last None e keeps before is = cc
kept_word f last (Some d) e keeps before is = ap (λ z. z.last) (sym (same_end (f d) e is)) ∙ keeps d ∙ before d refl

-- a load of a turn word at an end
after_word : (x word : ℕ) (f : End → End) (loads : Loads) (m : EndMap) → ((d : End) → (f d).last ≡ Some word) → AreLoaded loads m
    → AreLoaded (with_load x word loads) (with_change x f m)
after_word x word f loads m gives all y e is = elim (cases_Bool (eqb x y)) [
  | inl h ↦ let same : x ≡ y = eqb-true x y h in
      let there : end_in (with_change x f m) x ≡ Some e = ap (end_in (with_change x f m)) same ∙ is in
      rw h (changed_word f word (end_in m x) e gives (sym (end_in_changed x f m) ∙ there))
  | inr h ↦ let other : y ≢ x = λ same. let bad : true ≡ false = sym (eq-eqb x y (sym same)) ∙ h in cc in
      rw h (all y e (sym (end_in_changed_else x y f m other) ∙ is))
]

-- a change of an end that leaves its last word
after_change : (x : ℕ) (f : End → End) (loads : Loads) (m : EndMap) → ((d : End) → (f d).last ≡ d.last) → AreLoaded loads m → AreLoaded loads (with_change x f m)
after_change x f loads m keeps all y e is = elim (cases_Bool (eqb x y)) [
  | inl h ↦ let same : x ≡ y = eqb-true x y h in
      let there : end_in (with_change x f m) x ≡ Some e = ap (end_in (with_change x f m)) same ∙ is in
      kept_word f (last_loaded (loads y)) (end_in m x) e keeps (λ d at. all y d (ap (end_in m) (sym same) ∙ at)) (sym (end_in_changed x f m) ∙ there)
  | inr h ↦ let other : y ≢ x = λ same. let bad : true ≡ false = sym (eq-eqb x y (sym same)) ∙ h in cc in
      all y e (sym (end_in_changed_else x y f m other) ∙ is)
]

joined_word : (loads more : List ℕ) (first second : Option End) (e : End) → ((d : End) → first ≡ Some d → d.last ≡ last_loaded loads)
    → ((d : End) → second ≡ Some d → d.last ≡ last_loaded more) → either_end first second ≡ Some e
    → e.last ≡ last_loaded (cond (eqb (end_count first) 1) loads more)
joined_word loads more None second e left right is = right e is
joined_word loads more (Some d) second e left right is = left e is

after_joining : (first second : Loads) (m k : EndMap) → AreLoaded first m → AreLoaded second k
    → AreLoaded (λ x. cond (eqb (occurrences x m) 1) (first x) (second x)) (m ++ k)
after_joining first second m k left right x e is =
    joined_word (first x) (second x) (end_in m x) (end_in k x) e (left x) (right x) (sym (end_in_append m k x) ∙ is)

sender_word : (word : ℕ) (e : End) → (after_sender_load word e).last ≡ Some word
sender_word word e = elim (cases_Bool (is_even word)) [
  | inl h ↦ rw h refl
  | inr h ↦ rw h refl
]

receiver_word : (word : ℕ) (e : End) → (after_receiver_load word e).last ≡ Some word
receiver_word word e = elim (cases_Bool (is_even word)) [
  | inl h ↦ rw h refl
  | inr h ↦ rw h refl
]

at_map : (loads : Loads) (m k : EndMap) → k ≡ m → AreLoaded loads m → AreLoaded loads k
at_map loads m k is all = subst (AreLoaded loads) (sym is) all

-- all seats of a list
abbrev AllLoaded : List RunSeat → Type 0
AllLoaded seats = (k : ℕ) (seat : RunSeat) → slice_get seats k ≡ Some seat → HasLoadedWords seat

same_seat : (a b : RunSeat) → Some a ≡ Some b → a ≡ b
same_seat a b is = cc

one_set : (seats : List RunSeat) (j : ℕ) (new : RunSeat) → AllLoaded seats → HasLoadedWords new → AllLoaded (slice_set seats j new)
one_set [] j new all is k seat at = all k seat at
one_set (x ∷ xs) zero new all is zero seat at = subst HasLoadedWords (same_seat new seat at) is
one_set (x ∷ xs) zero new all is (suc k) seat at = all (suc k) seat at
one_set (x ∷ xs) (suc j) new all is zero seat at = all zero seat at
one_set (x ∷ xs) (suc j) new all is (suc k) seat at = one_set xs j new (λ n other there. all (suc n) other there) is k seat at

one_more : (seats : List RunSeat) (new : RunSeat) → AllLoaded seats → HasLoadedWords new → AllLoaded (seats ++ new ∷ [])
one_more [] new all is zero seat at = subst HasLoadedWords (same_seat new seat at) is
one_more [] new all is (suc k) seat at = cc
one_more (x ∷ xs) new all is zero seat at = all zero seat at
one_more (x ∷ xs) new all is (suc k) seat at = one_more xs new (λ n other there. all (suc n) other there) is k seat at

no_ends : (loads : Loads) → HasLoadedWords (run_seat spent_view loads)
no_ends loads x e is = cc

pub last_words : (words : List ℕ) (seats : List RunSeat) → Runs words seats → (k : ℕ) (seat : RunSeat) → slice_get seats k ≡ Some seat → HasLoadedWords seat
last_words words seats (Made layout packets) = one_more [] _ (λ k seat at. cc) (λ x e is. ap (λ z. z.last) (new_end layout.ranks _ x e is))
last_words words seats (SenderLoaded {seats = before} j s v w loads run at step) =
    one_set before j _ (last_words words before run)
    (at_map _ _ _ (ap (λ z. z.0.ends) step.0) (after_word (sending_end s.word) _ _ loads v.0.ends (sender_word _) (last_words words before run j _ at)))
last_words words seats (ReceiverLoaded {seats = before} j s v w loads run at step) =
    one_set before j _ (last_words words before run)
    (at_map _ _ _ (ap (λ z. z.0.ends) step.0) (after_word (receiving_end s.word) _ _ loads v.0.ends (receiver_word _) (last_words words before run j _ at)))
last_words words seats (DataLoaded {seats = before} j link place s v w loads run at step) =
    one_set before j _ (last_words words before run) (at_map loads _ _ (ap (λ z. z.0.ends) step.0) (last_words words before run j _ at))
last_words words seats (DataStored {words = old} {seats = before} j link word s v w loads run at step) =
    one_set before j _ (last_words old before run)
    (at_map _ _ _ (ap (λ z. z.0.ends) step) (after_change (sending_end link) _ loads v.0.ends (λ d. refl) (last_words old before run j _ at)))
last_words words seats (SenderStored {words = old} {seats = before} j word s v w loads run at step) =
    one_set before j _ (last_words old before run)
    (at_map _ _ _ (ap (λ z. z.0.ends) step) (after_change (sending_end s.word) _ loads v.0.ends (λ d. refl) (last_words old before run j _ at)))
last_words words seats (ReceiverStored {words = old} {seats = before} j word s v w loads run at step) =
    one_set before j _ (last_words old before run)
    (at_map _ _ _ (ap (λ z. z.0.ends) step) (after_change (receiving_end s.word) _ loads v.0.ends (λ d. refl) (last_words old before run j _ at)))
last_words words seats (Split {seats = before} j rank v loads run at) =
    let own = last_words words before run j _ at in
    one_more (slice_set before j _) _ (one_set before j _ (last_words words before run) (each_restriction _ _ v.ends own)) (each_restriction _ _ v.ends own)
last_words words seats (Joined {seats = before} j k v w first second run at other) =
    let joined = after_joining first second v.ends w.ends (last_words words before run j _ at) (last_words words before run k _ other) in
    one_set (slice_set before j _) k _ (one_set before j _ (last_words words before run) joined) (no_ends second)
