-- A supervisor that answers once more.
use Rattle.std.proofs.Common.{◌≡◌, ◌≤◌, ◌<◌, ℕ, ◌+◌, List, [], ◌∷◌, ◌++◌, length, Some, refl, sym, ap, ◌∙◌, subst, arith, append_assoc, length-append}
use Rattle.std.specs.Prelude.{Option, None, IfSome, MatchOption, Bool}
use Rattle.std.proofs.lemmas.List.{append-nil}
use Rattle.tm_rules.specs.Types.{Book, Query}
use Rattle.tm_publish.specs.declared.pass.Pass.{Pass}
use Rattle.tm_publish.specs.Words.{home, known, made_of}
use Rattle.tm_publish.proofs.Prefixes.{prefix_self, prefix_trans, prefix_length, prefix_take}
use mathlib.Core.List.{IsPrefix}
use Rattle.tm_legal.specs.Prelude.{last_from}
use Rattle.tm_rules.specs.Prelude.{book_answer, code_of}
use Rattle.tm_engine.specs.Waits.{IsFirstQuery}
use Rattle.tm_serve.specs.Serving.{IsServing, HasMade, HasAnswered, HasWaited}
use Rattle.tm_serve.proofs.Answering.{from_later, from_push, rises_push, last_push}

-- what is said of an Option, where it is known
pub some_of : {A : Type 0} (o : Option A) (x : A) (W : Type 0) (Q : A → Type 0) → o ≡ Some x → MatchOption o W Q → Q x
some_of None x W Q e h = absurd cc
some_of (Some y) x W Q e h = subst Q (let same : y ≡ x = cc in same) h

pub none_of : {A : Type 0} (o : Option A) (W : Type 0) (Q : A → Type 0) → o ≡ None → MatchOption o W Q → W
none_of None W Q e h = h
none_of (Some y) W Q e h = absurd cc

module _ {L O P S : Type 0} {n : _} {l : _} {o : _} (first_at : P → List S → Option Query) (answer : ℕ → ℕ → S) (book : Book) where
  -- nothing was answered yet
  pub starts : (pass : Pass L O P S n l o) → IsServing first_at answer book pass pass 0
  starts pass =
      record {
        answers = [];
        made = sym (append-nil (made_of pass));
        begins = prefix_self (known pass);
        rising = tt;
        low = omega arith;
        short = omega arith;
        counted = refl;
        each = λ p e. tt;
        few = none book.stop;
      }
    where
      none : (stop : Option ℕ) → IfSome stop (λ most. 0 ≤ most)
      none None = tt
      none (Some most) = omega arith

  -- the query of the version that was waited for has its answer
  pub answered : (fits : P → List S → S → Type 0) (over_at : P → List S → Bool) (old mid new : Pass L O P S n l o) (first : Option Query) (query : Query) (number : ℕ) → made_of mid ≡ made_of old → IsPrefix (known old) (known mid) → IsFirstQuery fits first_at over_at old mid first → first ≡ Some query → HasMade (answer query.serial (code_of (book_answer book query))) mid new number → HasAnswered first_at answer book old new number
  answered fits over_at old mid new first query number same begins waited is made =
      let longer : length (known old) ≤ length (known mid) = prefix_length (known old) (known mid) begins in
      let above : length (known mid) < number = made.after in
      record {
        made = made.made ∙ ap (λ ns. ns ++ number ∷ []) same;
        begins = prefix_trans (known old) (known mid) (known new) begins made.begins;
        after = omega arith;
        last = made.last;
        first = λ p e.
            record {
              version = length (known mid);
              query = query;
              since = longer;
              before = above;
              first = ap (first_at p) (prefix_take (known mid) (known new) made.begins) ∙ some_of first query _ (λ q. first_at p (known mid) ≡ Some q) is (waited.asked p e);
              answers = made.there;
            };
      }

  -- each query has its answer, and none will come
  pub waited : (fits : P → List S → S → Type 0) (over_at : P → List S → Bool) (old new : Pass L O P S n l o) (first : Option Query) → made_of new ≡ made_of old → IsPrefix (known old) (known new) → IsFirstQuery fits first_at over_at old new first → first ≡ None → HasWaited first_at over_at old new
  waited fits over_at old new first same begins found is =
      record { made = same; begins = begins; over = λ p e. none_of first _ (λ q. first_at p (known new) ≡ Some q) is (found.asked p e) }

  -- a wait more
  pub waits : (over_at : P → List S → Bool) (old mid new : Pass L O P S n l o) (count : ℕ) → IsServing first_at answer book old mid count → HasWaited first_at over_at mid new → IsServing first_at answer book old new count
  waits over_at old mid new count s h =
      let longer : length (known mid) ≤ length (known new) = prefix_length (known mid) (known new) h.begins in
      let low : last_from (length (known old)) s.answers ≤ length (known mid) = s.low in
      let short : count ≤ length (known mid) = s.short in
      record {
        answers = s.answers;
        made = h.made ∙ s.made;
        begins = prefix_trans (known old) (known mid) (known new) s.begins h.begins;
        rising = s.rising;
        low = omega arith;
        short = omega arith;
        counted = s.counted;
        each = λ p e. from_later first_at answer p book (known mid) (known new) (length (known old)) s.answers h.begins (s.each p e);
        few = s.few;
      }

  -- an answer more, where the book's number isn't reached
  pub goes_on : (old mid new : Pass L O P S n l o) (count number : ℕ) → home mid ≡ home old → ¬ (book.stop ≡ Some count) → IsServing first_at answer book old mid count → HasAnswered first_at answer book mid new number → IsServing first_at answer book old new (count + 1)
  goes_on old mid new count number same unreached s h =
      record {
        answers = s.answers ++ number ∷ [];
        made = h.made ∙ (ap (λ ns. ns ++ number ∷ []) s.made ∙ append_assoc (made_of old) s.answers (number ∷ []));
        begins = prefix_trans (known old) (known mid) (known new) s.begins h.begins;
        rising = rises_push (length (known old)) s.answers number s.rising (let low : last_from (length (known old)) s.answers ≤ length (known mid) = s.low in let above : length (known mid) < number = h.after in omega arith);
        low = rw (last_push (length (known old)) s.answers number) (let last : number ≡ length (known new) = h.last in omega arith);
        short = (let short : count ≤ length (known mid) = s.short in let above : length (known mid) < number = h.after in let last : number ≡ length (known new) = h.last in omega arith);
        counted = longer;
        each = λ p e.
            from_push first_at answer p book (known new) (length (known old)) s.answers (length (known mid)) number s.low
            (from_later first_at answer p book (known mid) (known new) (length (known old)) s.answers h.begins (s.each p e))
            (h.first p (same ∙ e));
        few = more book.stop unreached s.few;
      }
    where
      longer : count + 1 ≡ length (s.answers ++ number ∷ [])
      longer = ap (λ k. k + 1) s.counted ∙ sym (length-append s.answers (number ∷ []))

      more : (stop : Option ℕ) → ¬ (stop ≡ Some count) → IfSome stop (λ most. length s.answers ≤ most) → IfSome stop (λ most. length (s.answers ++ number ∷ []) ≤ most)
      more None other few = tt
      more (Some most) other few =
          let ne : ¬ (most ≡ count) = λ e. other (ap Some e) in
          let le : length s.answers ≤ most = few in
          let same : count ≡ length s.answers = s.counted in
          let long : count + 1 ≡ length (s.answers ++ number ∷ []) = longer in
          omega (arith, ne)
