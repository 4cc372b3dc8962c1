-- An entry with another literal name doesn't grant.
use Rattle.std.proofs.Common.{◌≡◌, Bool, true, false, ◌&&◌, not, refl, sym, ap, subst, ◌∙◌}
use Rattle.std.specs.Prelude.{Option, Some, None, is_some, if◌then◌else◌, slice_get}
use Rattle.std.specs.Option.{option_and_then, option_map_or}
use Rattle.tm_word.specs.Prelude.{Pattern, Word, literal, literal_word, matches, texts_equal}
use Rattle.tm_word.proofs.Literals.{literal-alone, literal-own}
use Rattle.tm_rules.specs.Types.{Args, Entry, Groups, NameUnion, Proc, Request, argument_words, name_value}
use Rattle.tm_rules.specs.Prelude.{args_grant, grants, has_permission, holds, is_literal, name_in, number_in, number_value, when}
use Rattle.tm_rules.proofs.EqualityLaws.{same_patterns, same_texts}
use Rattle.tm_index.specs.Names.{pattern_of, literal_name, literal_of}
use Rattle.tm_index.specs.Listing.{has_no_name}
use Rattle.tm_indexed.specs.Candidates.{is_wanted}

-- a literal matches its own name alone
pub literal-matches : (p : Pattern) (name : Word) → is_literal p ≡ true → matches p name ≡ texts_equal name (literal_word p)
literal-matches p name h = go (matches p name) (texts_equal name (literal_word p)) refl refl
  where
    is : p ≡ literal (literal_word p)
    is = same_patterns.sound p (literal (literal_word p)) h

    go : (a b : Bool) → matches p name ≡ a → texts_equal name (literal_word p) ≡ b → matches p name ≡ texts_equal name (literal_word p)
    go true true e f = e ∙ sym f
    go false false e f = e ∙ sym f
    go true false e f =
        let own : name ≡ literal_word p = literal-alone (literal_word p) name (subst (λ q. matches q name ≡ true) is e) in
        let same : texts_equal name (literal_word p) ≡ true = subst (λ w. texts_equal name w ≡ true) own (same_texts.full name) in
        absurd cc
    go false true e f =
        let own : name ≡ literal_word p = same_texts.sound name (literal_word p) f in
        let it : matches p name ≡ true = subst (λ q. matches q name ≡ true) (sym is) (subst (λ w. matches (literal w) name ≡ true) own (literal-own name)) in
        absurd cc

pattern-apart : (p : Pattern) (w name : Word) → literal_name p ≡ Some w → texts_equal name w ≡ false → matches p name ≡ false
pattern-apart p w name h apart = go (is_literal p) refl h
  where
    go : (b : Bool) → is_literal p ≡ b → (if b then Some (literal_word p) else None) ≡ Some w → matches p name ≡ false
    go true e k = let own : literal_word p ≡ w = cc in literal-matches p name e ∙ ap (texts_equal name) own ∙ apart
    go false e k = absurd cc

name-apart : (groups : Groups) (n : NameUnion) (w name : Word) → option_and_then literal_name (pattern_of n) ≡ Some w → texts_equal name w ≡ false → name_in groups n name ≡ None
unfolding name_in
name-apart groups (NameUnion.One p) w name h apart = rw (pattern-apart p w name h apart) refl
name-apart groups (NameUnion.Group group) w name h apart = absurd cc

pub when-none : {A : Type 0} (b : Bool) (o : Option A) → o ≡ None → when b o ≡ None
when-none true o e = e
when-none false o e = refl

-- the first name of the request isn't this one
abbrev Apart : Args → Word → Type 0
Apart args w = option_map_or (λ name. texts_equal name w) (slice_get (argument_words args) 0) false ≡ false

args-apart : (g : Groups) (a r : Args) (w : Word) → literal_of a ≡ Some w → Apart r w → args_grant g a r ≡ None
unfolding args_grant literal_of
args-apart g (Args.Path n) (Args.Path n') w h apart = name-apart g n w (name_value n') h apart
args-apart g (Args.Execute n prefer) (Args.Path n') w h apart = name-apart g n w (name_value n') h apart
args-apart g (Args.PathNumber n k) (Args.PathNumber n' k') w h apart = when-none (number_in g k (number_value k')) (name_in g n (name_value n')) (name-apart g n w (name_value n') h apart)
args-apart g (Args.Device n a b c) (Args.Device n' a' b' c') w h apart =
    when-none (number_in g a (number_value a') && number_in g b (number_value b') && number_in g c (number_value c')) (name_in g n (name_value n')) (name-apart g n w (name_value n') h apart)
args-apart g (Args.Path2 n m) (Args.Path2 n' m') w h apart = when-none (is_some (name_in g m (name_value m'))) (name_in g n (name_value n')) (name-apart g n w (name_value n') h apart)
args-apart g (Args.Mount d p k f) (Args.Mount d' p' k' f') w h apart =
    when-none (is_some (name_in g p (name_value p')) && is_some (name_in g k (name_value k')) && number_in g f (number_value f')) (name_in g d (name_value d')) (name-apart g d w (name_value d') h apart)
args-apart g (Args.Unix k n) (Args.Unix k' n') w h apart = when-none _ (name_in g n (name_value n')) (name-apart g n w (name_value n') h apart)
args-apart g (Args.Env p) (Args.Env p') w h apart = rw (pattern-apart p w (literal_word p') h apart) refl
args-apart g (Args.Inet k a p) r w h apart = absurd cc
args-apart g (Args.Manual d) r w h apart = absurd cc
args-apart g _ _ w h apart = refl

-- an entry that is neither of the wanted name nor without one doesn't grant
pub other-literal : (groups : Groups) (process : Proc) (request : Request) (name : Option Word) (entry : Entry) → name ≡ slice_get (argument_words request.args) 0 → is_wanted name entry ≡ false → has_no_name entry ≡ false
    → grants groups process request entry ≡ None
unfolding grants
other-literal groups process request name entry e wanted none = go (literal_of entry.args) refl none
  where
    apart : (w : Word) (o : Option Word) → literal_of entry.args ≡ Some w → is_wanted o entry ≡ false → option_map_or (λ v. texts_equal v w) o false ≡ false
    apart w None f k = refl
    apart w (Some v) f k = subst (λ (l : Option Word). option_map_or (texts_equal v) l false ≡ false) f k

    go : (o : Option Word) → literal_of entry.args ≡ o → not (is_some o) ≡ false → grants groups process request entry ≡ None
    go None f k = absurd cc
    go (Some w) f k =
        when-none (has_permission entry.perms.bits request.perm && holds entry.cond groups process request) (args_grant groups entry.args request.args)
        (args-apart groups entry.args request.args w f (subst (λ o. option_map_or (λ v. texts_equal v w) o false ≡ false) e (apart w name f wanted)))
