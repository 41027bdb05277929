-- The canonical text of a tree that a text's tokens derive reads back, up to places, where it does not have too many tokens.
use Rattle.std.proofs.Common.{◌≡◌, ℕ, zero, suc, ◌+◌, ◌≤◌, Ok, Err, List, [], ◌∷◌, ◌++◌, length, map, take, refl, sym, ap, subst, ◌∙◌}
use Rattle.std.proofs.Common.{append_assoc, length-append, arith}
use Rattle.std.specs.List.{AllByRecursion}
use Rattle.std.proofs.Math.Seq.{take-append_seam}
use Rattle.std.proofs.lemmas.List.{append-nil}
use Rattle.liszt_base.specs.declared.answers.Place.{Place}
use Rattle.liszt_base.specs.declared.answers.ProgramFault.{ProgramFault}
use Rattle.liszt_base.specs.declared.answers.ProgramWhat.TheVariants.{Big}
use Rattle.liszt_lexer.specs.declared.token.Token.{Token}
use Rattle.liszt_lexer.specs.Lexer.{tokens_of, bytes_of, IsSpelledIn}
use Rattle.liszt_lexer.proofs.FindingLemmas.{all_tokens_spelled}
use Rattle.liszt_lexer.proofs.SpellingLemmas.{spelling, ResultsIn, results_in}
use Rattle.liszt_tree.specs.Canonical.{canonical}
use Rattle.liszt_tree.specs.Tree.{Main, Same, nowhere}
use Rattle.liszt_parser.specs.Depth.{depth}
use Rattle.liszt_parser.specs.Grammar.{Lexeme, lexemes, Derives}
use Rattle.liszt_parser.specs.ParseFault.{IsShallow}
use Rattle.liszt_parser.proofs.TreeDepthLemmas.{reaches}
use Rattle.liszt_parser.proofs.PrefixDepthLemmas.{ShallowIn, shallow_here}
use Rattle.liszt_parser.proofs.CanonicalDepthLemmas.{written_shallow}
use Rattle.liszt_parser.proofs.CanonicalTokens.{IsWritableMain, main_words}
use Rattle.liszt_parser.proofs.CanonicalPieces.{canonical_spells}
use Rattle.liszt_parser.proofs.CanonicalTreeLemmas.{placed, a_main}
use Rattle.liszt_parser.proofs.CanonicalTextLemmas.{AreSpelled, is_writable}
use Rattle.liszt_base.specs.Limits.{depth_limit}

-- the tokens of a text are spelled
spelled : (text : List ℕ) (tokens : List Token) → AllByRecursion (IsSpelledIn text) tokens → AreSpelled (lexemes text tokens)
spelled text [] all = tt
spelled text (t ∷ tokens) all = (record { is = all.0.3 }, spelled text tokens all.1)

writable : (text : List ℕ) (tokens : List Token) (tree : Main) → tokens_of text ≡ Ok tokens → Derives (lexemes text tokens) tree
    → IsWritableMain tree
writable text tokens tree e d = is_writable d (spelled text tokens (all_tokens_spelled text tokens e))

-- tokens are their words at their places
place_at : List Token → ℕ → Place
place_at [] n = nowhere
place_at (t ∷ tokens) zero = t.place
place_at (t ∷ tokens) (suc n) = place_at tokens n

as_placed : (text : List ℕ) (tokens : List Token) → lexemes text tokens ≡ placed (place_at tokens) (map (spelling text) tokens)
unfolding place_at
as_placed text [] = refl
as_placed text (t ∷ tokens) =
    ap (λ (ts : List Lexeme). record { kind = t.kind; place = t.place; bytes = bytes_of text t } ∷ ts) (as_placed text tokens)

-- THE CANONICAL TEXT results in the words of its tree,
canonical_words : (text : List ℕ) (tokens : List Token) (tree : Main) → tokens_of text ≡ Ok tokens → Derives (lexemes text tokens) tree
    → (tokens' : List Token) → tokens_of (canonical tree) ≡ Ok tokens'
    → lexemes (canonical tree) tokens' ≡ placed (place_at tokens') (main_words tree [])
canonical_words text tokens tree e d tokens' e' =
    let words : map (spelling (canonical tree)) tokens' ≡ main_words tree [] =
    subst (ResultsIn (canonical tree) (main_words tree [])) e'
    (results_in (canonical tree) (main_words tree []) (canonical_spells tree (writable text tokens tree e d))) in
    as_placed (canonical tree) tokens' ∙ ap (placed (place_at tokens')) words

-- so it derives the tree,
pub reads_back : (text : List ℕ) (tokens : List Token) (tree : Main) → tokens_of text ≡ Ok tokens → Derives (lexemes text tokens) tree
    → (tokens' : List Token) → tokens_of (canonical tree) ≡ Ok tokens'
    → (tree' : Main) × Derives (lexemes (canonical tree) tokens') tree' × Same tree' tree
reads_back text tokens tree e d tokens' e' =
    let r = a_main tree (writable text tokens tree e d) (place_at tokens') [] in
    (r.tree, subst (λ ts. Derives ts r.tree) (sym (canonical_words text tokens tree e d tokens' e')) r.is, r.same)

-- and where it has no tokens it has too many.
pub only_too_many : (text : List ℕ) (tokens : List Token) (tree : Main) → tokens_of text ≡ Ok tokens → Derives (lexemes text tokens) tree
    → (fault : ProgramFault) → tokens_of (canonical tree) ≡ Err fault → fault.what ≡ Big
only_too_many text tokens tree e d fault e' =
    let h = writable text tokens tree e d in
    subst (ResultsIn (canonical tree) (main_words tree [])) e' (results_in (canonical tree) (main_words tree []) (canonical_spells tree h))

-- DEPTH. That no token is deeper than 64, at each place and after each front
front_shallow : (whole : List Lexeme) → IsShallow whole (length whole) → (n : ℕ) → n ≤ length whole → depth (take n whole) ≤ depth_limit
front_shallow whole h zero le = omega arith
front_shallow whole h (suc n) le =
    let one : n + 1 ≡ suc n = omega arith in
    subst (λ k. depth (take k whole) ≤ depth_limit) one (h n (omega arith) (omega arith))

at_front : (whole front ts : List Lexeme) → front ++ ts ≡ whole → ((n : ℕ) → n ≤ length whole → depth (take n whole) ≤ depth_limit) → depth front ≤ depth_limit
at_front whole front ts is h =
    let seam : take (length front) whole ≡ front = ap (take (length front)) (sym is) ∙ take-append_seam front ts in
    let within : length front ≤ length whole = omega (arith, length-append front ts, ap length is) in
    subst (λ l. depth l ≤ depth_limit) seam (h (length front) within)

into_fronts : (whole front ts : List Lexeme) → front ++ ts ≡ whole → ((n : ℕ) → n ≤ length whole → depth (take n whole) ≤ depth_limit)
    → ShallowIn front ts
into_fronts whole front [] is h = at_front whole front [] is h
into_fronts whole front (t ∷ ts) is h =
    (at_front whole front (t ∷ ts) is h, into_fronts whole (front ++ t ∷ []) ts (append_assoc front (t ∷ []) ts ∙ is) h)

out_of_fronts : (front ts : List Lexeme) → ShallowIn front ts → (n : ℕ) → n ≤ length ts → depth (front ++ take n ts) ≤ depth_limit
out_of_fronts front ts h zero le = subst (λ l. depth l ≤ depth_limit) (sym (append-nil front)) (shallow_here front ts h)
out_of_fronts front [] h (suc n) le = absurd (omega arith)
out_of_fronts front (t ∷ ts) h (suc n) le =
    subst (λ l. depth l ≤ depth_limit) (append_assoc front (t ∷ []) (take n ts)) (out_of_fronts (front ++ t ∷ []) ts h.1 n (omega arith))

-- where the tokens of the first text are so the canonical ones are too.
pub stays_shallow : (text : List ℕ) (tokens : List Token) (tree : Main) → tokens_of text ≡ Ok tokens → Derives (lexemes text tokens) tree
    → IsShallow (lexemes text tokens) (length (lexemes text tokens))
    → (tokens' : List Token) → tokens_of (canonical tree) ≡ Ok tokens'
    → IsShallow (lexemes (canonical tree) tokens') (length (lexemes (canonical tree) tokens'))
stays_shallow text tokens tree e d shallow tokens' e' =
    let ts = lexemes text tokens in
    let deep = reaches ts tree d (into_fronts ts [] ts refl (front_shallow ts shallow)) in
    let same = canonical_words text tokens tree e d tokens' e' in
    let fronts = subst (ShallowIn []) (sym same) (written_shallow tree (place_at tokens') deep) in
    λ place lt within. out_of_fronts [] (lexemes (canonical tree) tokens') fronts (place + 1) (omega (arith, within))
