-- All printed attributes are read again.
use Rattle.std.proofs.Common.{◌≡◌, ℕ, Bool, true, false, ◌&&◌, not, List, [], ◌∷◌, ◌++◌, map, Option, Some, None, Ok, refl, sym, ap, ◌∙◌, append_assoc}
use Rattle.std.specs.Prelude.{is_some}
use Rattle.std.specs.List.{list_all}
use Rattle.std.proofs.lemmas.List.{append-nil}
use Rattle.tm_word.specs.Prelude.{Text, Word, are_bytes, is_empty}
use Rattle.tm_rules.specs.Types.{Args, Attributes, Stat, no_attributes}
use Rattle.tm_rules.specs.Prelude.{bytes_if, is_stat, may_have}
use Rattle.tm_entry.specs.Written.{is_name_byte}
use Rattle.tm_line.proofs.Steps.{both}
use Rattle.tm_trace.specs.Attributes.{executes, links, with_word, is_complete, attributes_from}
use Rattle.tm_trace.specs.Printing.{words_if, real_path_text, argument_text, environment_text, target_text, stat_text, attribute_words}
use Rattle.tm_trace.specs.Written.{rises, names_once, are_names, has_word}
use Rattle.tm_trace.proofs.Asking.{Given}
use Rattle.tm_trace.proofs.AttributeAgain.{real_again, argument_again, environment_again, target_again, stat_again, put_last, rises_front, not_before}

one_more : (a : Args) (perm : ℕ) (at next : Attributes) (word : Text) (words : List Text) → with_word a perm at word ≡ Ok next → attributes_from a perm at (word ∷ words) ≡ attributes_from a perm next words
unfolding attributes_from
one_more a perm at next word words e = rw e refl

put_at_end : {A : Type 0} (xs ys : List A) (x : A) → (xs ++ x ∷ []) ++ ys ≡ xs ++ x ∷ ys
put_at_end xs ys x = append_assoc xs (x ∷ []) ys

module _ (a : Args) (perm : ℕ) where
  -- the attributes so far
  abbrev so_far : Option Word → List Word → List (Word × Word) → Option Word → List Stat → Attributes
  so_far real argv envp target stats = record { real_path = real; argv = argv; envp = envp; target = target; stats = stats }

  arguments : (real : Option Word) (done todo : List Word) (more : List Text) → executes a perm ≡ true → list_all are_bytes todo ≡ true
      → attributes_from a perm (so_far real done [] None []) (map argument_text todo ++ more) ≡ attributes_from a perm (so_far real (done ++ todo) [] None []) more
  arguments real done [] more h k = ap (λ ws. attributes_from a perm (so_far real ws [] None []) more) (sym (append-nil done))
  arguments real done (w ∷ todo) more h k =
      let t = both (are_bytes w) (list_all are_bytes todo) k in
      let at = so_far real done [] None [] in
      one_more a perm at (so_far real (done ++ w ∷ []) [] None []) (argument_text w) (map argument_text todo ++ more) (argument_again a perm at w h t.0)
      ∙ arguments real (done ++ w ∷ []) todo more h t.1
      ∙ ap (λ ws. attributes_from a perm (so_far real ws [] None []) more) (put_at_end done todo w)

  environment : (real : Option Word) (argv : List Word) (done todo : List (Word × Word)) (more : List Text) → executes a perm ≡ true → are_names todo ≡ true → list_all (λ pair. are_bytes pair.1) todo ≡ true → names_once (done ++ todo) ≡ true
      → attributes_from a perm (so_far real argv done None []) (map environment_text todo ++ more) ≡ attributes_from a perm (so_far real argv (done ++ todo) None []) more
  environment real argv done [] more h k b o = ap (λ ps. attributes_from a perm (so_far real argv ps None []) more) (sym (append-nil done))
  environment real argv done (pair ∷ todo) more h k b o =
      let t = both (list_all is_name_byte pair.0) (are_names todo) k in
      let u = both (are_bytes pair.1) (list_all (λ p. are_bytes p.1) todo) b in
      let at = so_far real argv done None [] in
      one_more a perm at (so_far real argv (done ++ pair ∷ []) None []) (environment_text pair) (map environment_text todo ++ more)
      (environment_again a perm at pair h (not_before pair.0 pair.1 done todo o) t.0 u.0)
      ∙ environment real argv (done ++ pair ∷ []) todo more h t.1 u.1 (ap names_once (put_at_end done todo pair) ∙ o)
      ∙ ap (λ ps. attributes_from a perm (so_far real argv ps None []) more) (put_at_end done todo pair)

  stats : (real : Option Word) (argv : List Word) (envp : List (Word × Word)) (target : Option Word) (done todo : List Stat) (more : List Text)
      → list_all (may_have a) todo ≡ true → list_all is_stat todo ≡ true → list_all has_word todo ≡ true → rises (done ++ todo) ≡ true
      → attributes_from a perm (so_far real argv envp target done) (map stat_text todo ++ more) ≡ attributes_from a perm (so_far real argv envp target (done ++ todo)) more
  stats real argv envp target done [] more h k w o = ap (λ ss. attributes_from a perm (so_far real argv envp target ss) more) (sym (append-nil done))
  stats real argv envp target done (s ∷ todo) more h k w o =
      let t = both (may_have a s) (list_all (may_have a) todo) h in
      let u = both (is_stat s) (list_all is_stat todo) k in
      let v = both (has_word s) (list_all has_word todo) w in
      let order : rises ((done ++ s ∷ []) ++ todo) ≡ true = ap rises (put_at_end done todo s) ∙ o in
      let last = put_last s done (rises_front (done ++ s ∷ []) todo order) in
      let at = so_far real argv envp target done in
      one_more a perm at (so_far real argv envp target (done ++ s ∷ [])) (stat_text s) (map stat_text todo ++ more)
      (stat_again a perm at s t.0 last.1 u.0 v.0 ∙ ap (λ ss. Ok (so_far real argv envp target ss)) last.0)
      ∙ stats real argv envp target (done ++ s ∷ []) todo more t.1 u.1 v.1 order
      ∙ ap (λ ss. attributes_from a perm (so_far real argv envp target ss) more) (put_at_end done todo s)

  real_path : (real : Option Word) (more : List Text) → executes a perm ≡ true → bytes_if real ≡ true
      → attributes_from a perm (so_far None [] [] None []) (words_if real_path_text real ++ more) ≡ attributes_from a perm (so_far real [] [] None []) more
  real_path None more h k = refl
  real_path (Some w) more h k =
      let at = so_far None [] [] None [] in
      one_more a perm at (so_far (Some w) [] [] None []) (real_path_text w) more (real_again a perm at w h refl k)

  target_path : (real : Option Word) (argv : List Word) (envp : List (Word × Word)) (target : Option Word) (more : List Text) → (links a perm ≡ false → is_some target ≡ false) → bytes_if target ≡ true
      → attributes_from a perm (so_far real argv envp None []) (words_if target_text target ++ more) ≡ attributes_from a perm (so_far real argv envp target []) more
  target_path real argv envp None more h k = refl
  target_path real argv envp (Some w) more h k =
      let at = so_far real argv envp None [] in
      one_more a perm at (so_far real argv envp (Some w) []) (target_text w) more (target_again a perm at w (is_link (links a perm) refl) refl k)
    where
      is_link : (t : Bool) → links a perm ≡ t → t ≡ true
      is_link true e = refl
      is_link false e = absurd (let no_target : is_some (Some w) ≡ false = h e in cc)

  -- what an execute has; nothing of it for another request
  exec_words : (t : Bool) (at : Attributes) (more : List Text) → executes a perm ≡ t → Given a perm at
      → attributes_from a perm (so_far None [] [] None []) (words_if real_path_text at.real_path ++ (map argument_text at.argv ++ (map environment_text at.envp ++ more))) ≡ attributes_from a perm (so_far at.real_path at.argv at.envp None []) more
  exec_words true at more e g =
      real_path at.real_path (map argument_text at.argv ++ (map environment_text at.envp ++ more)) e g.real
      ∙ arguments at.real_path [] at.argv (map environment_text at.envp ++ more) e g.argv
      ∙ environment at.real_path at.argv [] at.envp more e g.names g.values g.once
  exec_words false at more e g =
      let b = both (not (is_some at.real_path) && is_empty at.argv) (is_empty at.envp) (g.exec e) in
      let c = both (not (is_some at.real_path)) (is_empty at.argv) b.0 in
      none at.real_path at.argv at.envp c.0 c.1 b.1
    where
      none : (real : Option Word) (argv : List Word) (envp : List (Word × Word)) → not (is_some real) ≡ true → is_empty argv ≡ true → is_empty envp ≡ true
          → attributes_from a perm (so_far None [] [] None []) (words_if real_path_text real ++ (map argument_text argv ++ (map environment_text envp ++ more))) ≡ attributes_from a perm (so_far real argv envp None []) more
      none (Some w) argv envp h k l = absurd cc
      none None (w ∷ argv) envp h k l = absurd cc
      none None [] (pair ∷ envp) h k l = absurd cc
      none None [] [] h k l = refl

complete_end : (a : Args) (perm : ℕ) (at : Attributes) → is_complete a perm at ≡ true → attributes_from a perm at [] ≡ Ok at
unfolding attributes_from
complete_end a perm at h = rw h refl

pub attributes_again : (a : Args) (perm : ℕ) (at : Attributes) → Given a perm at → is_complete a perm at ≡ true → attributes_from a perm no_attributes (attribute_words at) ≡ Ok at
unfolding attribute_words
attributes_again a perm at g h =
    exec_words a perm (executes a perm) at (words_if target_text at.target ++ map stat_text at.stats) refl g
    ∙ target_path a perm at.real_path at.argv at.envp at.target (map stat_text at.stats) g.link g.target
    ∙ ap (attributes_from a perm (record at { stats = [] })) (sym (append-nil (map stat_text at.stats)))
    ∙ stats a perm at.real_path at.argv at.envp at.target [] at.stats [] g.stats g.low g.written g.order
    ∙ complete_end a perm at h
