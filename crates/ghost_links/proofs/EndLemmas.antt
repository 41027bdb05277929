-- Which ends a seat has: the first seat of a table, and the seats after a split and a join.
use Rattle.std.proofs.Common.{◌≡◌, ◌≢◌, ℕ, ◌*◌, ◌/◌, ◌%◌, ◌<◌, Some, None, Bool, true, false, not, cond, eqb, eq-eqb, ne_eqb, List, refl, ap, ◌∙◌, arith}
use Rattle.std.specs.declared.option.Option.{Option}
use Rattle.ghost_links.specs.declared.view.End.{End}
use Rattle.ghost_links.specs.Layouts.{turn_word}
use Rattle.ghost_links.specs.Ends.{all_ends, end_count, end_in, idle_end, is_end, occurrences, rank_of_end, receiving_end, sending_end}
use Rattle.ghost_links.specs.Holdings.{HasLink, Holding, LinkTable, after_join, after_split, first_holding, handed_holding, receiver, sender}
use Rattle.ghost_links.proofs.LayoutLemmas.{end_of_receiver, end_of_sender}
use Rattle.ghost_links.proofs.MapLemmas.{either_end, end_in_append, end_in_restriction, new_end}
use Rattle.ghost_links.proofs.RuleLemmas.{pair_is_link, receiving_rank, sending_rank}
use Rattle.ghost_links.proofs.StepLemmas.{occurrences_of_all}

new_end_there : (ranks x : ℕ) → is_end ranks x ≡ true → end_in (all_ends ranks) x ≡ Some (idle_end 0 None)
new_end_there ranks x is = go (end_in (all_ends ranks) x) refl (occurrences_of_all ranks x ∙ ap (λ b. cond b 1 0) is)
  where
    go : (o : Option End) → end_in (all_ends ranks) x ≡ o → end_count o ≡ 1 → end_in (all_ends ranks) x ≡ Some (idle_end 0 None)
    go None e one = absurd (omega arith)
    go (Some g) e one = e ∙ ap Some (new_end ranks (2 * (ranks * ranks)) x g e)

pub first_sender : (t : LinkTable) (packets : ℕ → ℕ → List (List ℕ)) (a b : ℕ) → HasLink t a b
    → end_in (first_holding t packets).ends (sender t a b) ≡ Some (idle_end 0 None)
first_sender t packets a b h =
    let ranks = t.layout.ranks in
    new_end_there ranks (sender t a b)
    (end_of_sender ranks (turn_word ranks a b) (sender t a b) refl ∙ pair_is_link ranks a b h.from h.to h.apart)

pub first_receiver : (t : LinkTable) (packets : ℕ → ℕ → List (List ℕ)) (a b : ℕ) → HasLink t a b
    → end_in (first_holding t packets).ends (receiver t a b) ≡ Some (idle_end 0 None)
first_receiver t packets a b h =
    let ranks = t.layout.ranks in
    new_end_there ranks (receiver t a b)
    (end_of_receiver ranks (turn_word ranks a b) (receiver t a b) refl ∙ pair_is_link ranks a b h.from h.to h.apart)

-- the rank that an end of a link belongs to
pub rank_of_sender : (ranks a b : ℕ) → b < ranks → rank_of_end ranks (sending_end (turn_word ranks a b)) ≡ a
rank_of_sender ranks a b lt =
    let link = turn_word ranks a b in
    let rest : sending_end link % 2 ≡ 0 = omega arith in
    let half : sending_end link / 2 ≡ link = omega arith in
    ap (λ c. cond c (sending_end link / 2 / ranks) (sending_end link / 2 % ranks)) (eq-eqb (sending_end link % 2) 0 rest)
    ∙ (ap (λ l. l / ranks) half ∙ sending_rank ranks a b lt)

pub rank_of_receiver : (ranks a b : ℕ) → b < ranks → rank_of_end ranks (receiving_end (turn_word ranks a b)) ≡ b
rank_of_receiver ranks a b lt =
    let link = turn_word ranks a b in
    let rest : receiving_end link % 2 ≢ 0 = omega arith in
    let half : receiving_end link / 2 ≡ link = omega arith in
    ap (λ c. cond c (receiving_end link / 2 / ranks) (receiving_end link / 2 % ranks)) (ne_eqb (receiving_end link % 2) 0 rest)
    ∙ (ap (λ l. l % ranks) half ∙ receiving_rank ranks a b lt)

cond_not : {A : Type 0} (b : Bool) (x y : A) → cond (not b) x y ≡ cond b y x
cond_not true x y = refl
cond_not false x y = refl

handed_end : (h : Holding) (rank x r : ℕ) → rank_of_end h.links.layout.ranks x ≡ r
    → end_in (handed_holding rank h).ends x ≡ cond (eqb r rank) (end_in h.ends x) None
handed_end h rank x r is =
    end_in_restriction (λ y. eqb (rank_of_end h.links.layout.ranks y) rank) h.ends x
    ∙ ap (λ q. cond (eqb q rank) (end_in h.ends x) None) is

kept_end : (h : Holding) (rank x r : ℕ) → rank_of_end h.links.layout.ranks x ≡ r
    → end_in (after_split rank h).ends x ≡ cond (eqb r rank) None (end_in h.ends x)
kept_end h rank x r is =
    end_in_restriction (λ y. not (eqb (rank_of_end h.links.layout.ranks y) rank)) h.ends x
    ∙ ap (λ q. cond (not (eqb q rank)) (end_in h.ends x) None) is
    ∙ cond_not (eqb r rank) (end_in h.ends x) None

pub handed_sender : (h : Holding) (rank a b : ℕ) → HasLink h.links a b
    → end_in (handed_holding rank h).ends (sender h.links a b) ≡ cond (eqb a rank) (end_in h.ends (sender h.links a b)) None
handed_sender h rank a b l = handed_end h rank (sender h.links a b) a (rank_of_sender h.links.layout.ranks a b l.to)

pub handed_receiver : (h : Holding) (rank a b : ℕ) → HasLink h.links a b
    → end_in (handed_holding rank h).ends (receiver h.links a b) ≡ cond (eqb b rank) (end_in h.ends (receiver h.links a b)) None
handed_receiver h rank a b l = handed_end h rank (receiver h.links a b) b (rank_of_receiver h.links.layout.ranks a b l.to)

pub kept_sender : (h : Holding) (rank a b : ℕ) → HasLink h.links a b
    → end_in (after_split rank h).ends (sender h.links a b) ≡ cond (eqb a rank) None (end_in h.ends (sender h.links a b))
kept_sender h rank a b l = kept_end h rank (sender h.links a b) a (rank_of_sender h.links.layout.ranks a b l.to)

pub kept_receiver : (h : Holding) (rank a b : ℕ) → HasLink h.links a b
    → end_in (after_split rank h).ends (receiver h.links a b) ≡ cond (eqb b rank) None (end_in h.ends (receiver h.links a b))
kept_receiver h rank a b l = kept_end h rank (receiver h.links a b) b (rank_of_receiver h.links.layout.ranks a b l.to)

pub joined_end : (h k : Holding) (x : ℕ) → end_in (after_join h k).ends x
    ≡ cond (eqb (occurrences x h.ends) 1) (end_in h.ends x) (end_in k.ends x)
joined_end h k x = end_in_append h.ends k.ends x ∙ either (end_in h.ends x) (end_in k.ends x)
  where
    either : (o p : Option End) → either_end o p ≡ cond (eqb (end_count o) 1) o p
    either None p = refl
    either (Some e) p = refl
