use Rattle.std.proofs.Common.{◌≡◌, ◌<◌, length, get_or, Some, arith, ◌∙◌, ap, sym}
use Rattle.std.proofs.lemmas.List.{get_or_default}
use Rattle.tm_list.specs.Map.{at_rank, put, place_of}
use Rattle.tm_list.proofs.MapLaws.{put_written, Rises-put, found, lacks}
use Rattle.tm_list.proofs.map.Map.replace.Goals as goal
use Rattle.tm_list.proofs.map.Map.replace.Goals.{else-place-len-via-then-place-len+else-rank, else-place-len-via-else-place-len}

pub invariant_of-self : goal.invariant_of-self
invariant_of-self g c =
    let rank = g.K.Key.rank in
    let e = put_written rank c.args.key.now c.args.value c.self.inside.entries.items c.place-place.result c.index.result.now (cc) (omega arith) c.index.ensures (cc) in
    rw (c.replace-old.ensures.after, e) (Rises-put rank c.args.key.now c.args.value _ c.self.invariant)

pub returns-then-rank-clause-old : goal.returns-then-rank-clause-old
returns-then-rank-clause-old g c =
    let rank = g.K.Key.rank in
    let xs = c.self.inside.entries.items in
    let below : c.place-place.result < length xs = omega arith in
    let is_it : c.index.result.now ≡ c.index_mut.result.now = c.index.ensures ∙ sym (get_or_default xs c.place-place.result c.index_mut.result.now c.index.result.now below) ∙ sym c.index_mut.ensures.value in
    let e = found rank (rank c.args.key.now) xs c.place-place.result c.index.result.now (cc) below c.index.ensures (cc) in
    ap (λ p. Some p.1) (c.replace-old.ensures.value ∙ sym is_it) ∙ sym e ∙ ap (at_rank rank (rank c.args.key.now)) c.self.view_is

pub returns-then-rank-clause-written : goal.returns-then-rank-clause-written
returns-then-rank-clause-written g c = λ _.
    let rank = g.K.Key.rank in
    let e = put_written rank c.args.key.now c.args.value c.self.inside.entries.items c.place-place.result c.index.result.now (cc) (omega arith) c.index.ensures (cc) in
    rw c.replace-old.ensures.after (e ∙ ap (put rank c.args.key.now c.args.value) c.self.view_is)

pub returns-else-place-len-clause-old : goal.returns-else-place-len-clause-old
returns-else-place-len-clause-old g c =
    let rank = g.K.Key.rank in
    let n = rank c.args.key.now in
    let xs = c.self.inside.entries.items in
    let free : c.place-place.result < length xs → (e : _) → e ≡ get_or xs c.place-place.result e → rank e.0 ≡ n → ⊥ =
    elim c.else-place-len.branch [
      | else-place-len-via-then-place-len+else-rank w ↦ λ below e there same.
          let one = get_or_default xs c.place-place.result e w.index.result.now below in
          let is_it : e ≡ w.index.result.now = there ∙ one ∙ sym w.index.ensures in
          w.if-rank.false (w.rank.ensures ∙ sym (ap (λ p. rank p.0) is_it) ∙ same ∙ sym w.rank-then-place-len.ensures)
      | else-place-len-via-else-place-len w ↦ λ below e there same. absurd (omega arith)
    ] in
    let here : c.place-place.result ≡ place_of rank n xs = c.place-place.ensures ∙ ap (place_of rank n) (sym c.self.view_is) in
    sym (lacks rank n xs c.place-place.result here c.self.invariant free) ∙ ap (at_rank rank n) c.self.view_is
