-- The history that a list of steps comes to: as long as the list, with its steps; longer lists go
-- on with it.
use Rattle.std.proofs.Common.{◌≡◌, ℕ, zero, suc, List, [], ◌∷◌, ◌++◌, length, take, Bool, true, false, refl, sym, ap, ◌∙◌, subst}
use Rattle.std.specs.Prelude.{Option, Some, None, slice_get, unwrap_or, option_map, is_some, if◌then◌else◌}
use Rattle.std.proofs.lemmas.List.{length-map, map-append}
use Rattle.tm_rules.specs.Types.{Made, Reply, Start, Step}
use Rattle.tm_rules.specs.Prelude.{Grammar}
use Rattle.tm_legal.specs.Prelude.{History, Replies, Scene, State, after, apply, fits, opening, opening_of, places, places_from, reply_at, state_at, step_at, steps_of}
use Rattle.tm_made.specs.Made.{numbers_from, steps_made, state_made, told_from, start_in, history_made, IsFitted, made_step, EachFits}

-- States and replies along a list

pub told-steps : (g : Grammar) (s : State) (steps : List Step) → steps_of (told_from g s steps) ≡ steps
unfolding told_from
told-steps g s [] = refl
told-steps g s (step ∷ steps) = ap (λ (xs : List Step). step ∷ xs) (told-steps g (apply g s step).state steps)

pub told-length : (g : Grammar) (s : State) (steps : List Step) → length (told_from g s steps) ≡ length steps
unfolding told_from
told-length g s [] = refl
told-length g s (step ∷ steps) = ap suc (told-length g (apply g s step).state steps)

pub told-append : (g : Grammar) (s : State) (xs ys : List Step) → told_from g s (xs ++ ys) ≡ told_from g s xs ++ told_from g (after g s xs) ys
unfolding told_from after
told-append g s [] ys = refl
told-append g s (x ∷ xs) ys = ap (λ (h : History). (x, unwrap_or (apply g s x).reply Reply.End) ∷ h) (told-append g (apply g s x).state xs ys)

-- a history with the right replies is the one that its steps come to
pub told-again : (g : Grammar) (s : State) (h : History) → Replies g s h → told_from g s (steps_of h) ≡ h
unfolding told_from
told-again g s [] replies = refl
told-again g s (pair ∷ h) replies = rw (replies.0, told-again g (apply g s pair.0).state h replies.1) refl

pub replies-front : (g : Grammar) (s : State) (h more : History) → Replies g s (h ++ more) → Replies g s h
replies-front g s [] more replies = tt
replies-front g s (pair ∷ h) more replies = (replies.0, replies-front g (apply g s pair.0).state h more replies.1)

pub replies-rest : (g : Grammar) (s : State) (h more : History) → Replies g s (h ++ more) → Replies g (after g s (steps_of h)) more
unfolding after
replies-rest g s [] more replies = replies
replies-rest g s (pair ∷ h) more replies = replies-rest g (apply g s pair.0).state h more replies.1

-- Lists from the opening of a scene

module _ (scene : Scene) where
  pub made-steps : (list : List Made) → steps_of (history_made scene list) ≡ steps_made list
  made-steps list = told-steps scene.grammar (opening_of scene) (steps_made list)

  pub made-length : (list : List Made) → length (history_made scene list) ≡ length list
  made-length list = told-length scene.grammar (opening_of scene) (steps_made list) ∙ length-map list (λ (made : Made). made.step)

  -- what follows in a longer list
  abbrev pub more_made : List Made → List Made → History
  more_made xs ys = told_from scene.grammar (after scene.grammar (opening_of scene) (steps_made xs)) (steps_made ys)

  pub made-append : (xs ys : List Made) → history_made scene (xs ++ ys) ≡ history_made scene xs ++ more_made xs ys
  made-append xs ys = rw (map-append (λ (made : Made). made.step) xs ys) (told-append scene.grammar (opening_of scene) (steps_made xs) (steps_made ys))

  -- the beginning of a list that fits
  pub fitted-front : (xs ys : List Made) → IsFitted scene (xs ++ ys) → IsFitted scene xs
  fitted-front xs ys h = replies-front scene.grammar (opening_of scene) (history_made scene xs) (more_made xs ys) (subst (Replies scene.grammar (opening_of scene)) (made-append xs ys) h)

take-map : (n : ℕ) (list : List Made) → take n (steps_made list) ≡ steps_made (take n list)
take-map zero list = refl
take-map (suc n) [] = refl
take-map (suc n) (made ∷ list) = ap (λ (steps : List Step). made.step ∷ steps) (take-map n list)

-- the state of each version is the one after so many steps
pub state_at-take : (scene : Scene) (list : List Made) (n : ℕ) → state_at scene (history_made scene list) n ≡ after scene.grammar (opening_of scene) (steps_made (take n list))
state_at-take scene list n =
    ap (λ (steps : List Step). after scene.grammar (opening_of scene) (take n steps)) (made-steps scene list) ∙ ap (after scene.grammar (opening_of scene)) (take-map n list)

-- Steps by number

get-told : (g : Grammar) (s : State) (list : List Made) (j : ℕ) → option_map (λ (pair : Step × Reply). pair.0) (slice_get (told_from g s (steps_made list)) j) ≡ option_map (λ (made : Made). made.step) (slice_get list j)
unfolding told_from
get-told g s [] j = refl
get-told g s (made ∷ list) zero = refl
get-told g s (made ∷ list) (suc j) = get-told g (apply g s made.step).state list j

pub step_at-made : (scene : Scene) (list : List Made) (n : ℕ) → step_at (history_made scene list) n ≡ made_step list n
step_at-made scene list zero = refl
step_at-made scene list (suc j) = get-told scene.grammar (opening_of scene) list j

places-told : (g : Grammar) (s : State) (n : ℕ) (test : Step → Bool) (list : List Made) → places_from n test (told_from g s (steps_made list)) ≡ numbers_from n (λ (made : Made). test made.step) list
unfolding told_from
places-told g s n test [] = refl
places-told g s n test (made ∷ list) = go (test made.step) (places-told g (apply g s made.step).state (suc n) test list)
  where
    go : (b : Bool) → places_from (suc n) test (told_from g (apply g s made.step).state (steps_made list)) ≡ numbers_from (suc n) (λ (m : Made). test m.step) list → (if b then n ∷ places_from (suc n) test (told_from g (apply g s made.step).state (steps_made list)) else places_from (suc n) test (told_from g (apply g s made.step).state (steps_made list))) ≡ (if b then n ∷ numbers_from (suc n) (λ (m : Made). test m.step) list else numbers_from (suc n) (λ (m : Made). test m.step) list)
    go true ih = ap (λ (ns : List ℕ). n ∷ ns) ih
    go false ih = ih

-- the numbers of the steps that pass are the same in the list and in its history
pub places-made : (scene : Scene) (test : Step → Bool) (list : List Made) → places test (history_made scene list) ≡ numbers_from 1 (λ (made : Made). test made.step) list
places-made scene test list = places-told scene.grammar (opening_of scene) 1 test list

-- Each step fits after those before it

has-reply : (o : Option Reply) → is_some o ≡ true → o ≡ Some (unwrap_or o Reply.End)
has-reply None e = absurd cc
has-reply (Some r) e = refl

each-from : (g : Grammar) (s : State) (list : List Made) → ((k : ℕ) (made : Made) → slice_get list k ≡ Some made → is_some (apply g (after g s (steps_made (take k list))) made.step).reply ≡ true) → Replies g s (told_from g s (steps_made list))
unfolding told_from after
each-from g s [] each = tt
each-from g s (made ∷ list) each = (has-reply (apply g s made.step).reply (each 0 made refl), each-from g (apply g s made.step).state list (λ k m at. each (suc k) m at))

-- a list is fitted where each step fits after those before it
pub each-fitted : (scene : Scene) (list : List Made) → EachFits scene.grammar (start_in scene) list → IsFitted scene list
each-fitted scene list each = each-from scene.grammar (opening_of scene) list each

-- The reply of the last step

told-last : (g : Grammar) (s : State) (xs : List Step) (step : Step) → slice_get (told_from g s (xs ++ step ∷ [])) (length xs) ≡ Some (step, unwrap_or (apply g (after g s xs) step).reply Reply.End)
unfolding told_from after
told-last g s [] step = refl
told-last g s (x ∷ xs) step = told-last g (apply g s x).state xs step

last-reply : (g : Grammar) (start : Start) (before : List Made) (made : Made) → reply_at (told_from g (opening start) (steps_made (before ++ made ∷ []))) (suc (length before)) ≡ Some (unwrap_or (apply g (state_made g start before) made.step).reply Reply.End)
last-reply g start before made =
    let steps : steps_made (before ++ made ∷ []) ≡ steps_made before ++ made.step ∷ [] = map-append (λ (m : Made). m.step) before (made ∷ []) in
    let long : length (steps_made before) ≡ length before = length-map before (λ (m : Made). m.step) in
    ap (λ (xs : List Step). reply_at (told_from g (opening start) xs) (suc (length before))) steps
    ∙ ap (λ (n : ℕ). reply_at (told_from g (opening start) (steps_made before ++ made.step ∷ [])) (suc n)) (sym long)
    ∙ ap (option_map (λ (pair : Step × Reply). pair.1)) (told-last g (opening start) (steps_made before) made.step)

-- the reply that is told of the last step is the one that it has at its place, where it fits
pub told-reply : (g : Grammar) (start : Start) (before list : List Made) (made : Made) (number : ℕ) (reply : Reply) → list ≡ before ++ made ∷ [] → number ≡ suc (length before) → fits g start (steps_made before) made.step ≡ true → reply_at (told_from g (opening start) (steps_made list)) number ≡ Some reply → (apply g (state_made g start before) made.step).reply ≡ Some reply
told-reply g start before list made number reply is_list is_number fit told =
    has-reply (apply g (state_made g start before) made.step).reply fit
    ∙ sym (last-reply g start before made)
    ∙ ap (λ (n : ℕ). reply_at (told_from g (opening start) (steps_made (before ++ made ∷ []))) n) (sym is_number)
    ∙ ap (λ (xs : List Made). reply_at (told_from g (opening start) (steps_made xs)) number) (sym is_list) ∙ told
