use Rattle.std.proofs.Common.{◌≡◌, ◌<◌, true, Some, Err, ◌∷◌, ◌++◌, refl, sym, subst, ap, ◌∙◌, slice_set}
use Rattle.std.proofs.lemmas.List.{drop-set-lt}
use Rattle.std.specs.Iterator.{Yields}
use Rattle.std.specs.Str.Iter.{split_whitespace_steps}
use Rattle.ask.specs.declared.fault.Fault.TheVariants.{Key}
use Rattle.ask.specs.Numbers.{key_in}
use Rattle.ask.specs.Lines.{texts, are_keys, with_key, with_keys, shown_keys, Follows}
use Rattle.ask.proofs.Steps.{keys_none, keys_more, shown_more, key_small, restored}
use Rattle.ask.proofs.Words.{by_any, by_next, by_came, text_after, text_came, texts_push}
use Rattle.ask.proofs.lines.show_keys.Goals as goal

-- a word named no key: the cells are put back, and the words after it change nothing
pub returns-in_default : goal.returns-in_default
returns-in_default c =
    let n = c.args.keys in let cells = c.args.cells.now in let ws = c.loop-word.yielded in
    let s = c.args.words in let it = c.loop-word.word-iterator in let w = c.in-Some.word in let t = c.next.new.self in
    let came = subst (λ j. Yields split_whitespace_steps j ws it) c.into_iter-word-iterator.ensures.into_iter_gives c.loop-word.yielded_by in
    let text = text_after it w t c.in-Some.ensures.steps (text_came ws s it came c.well_formed.1.1.0.1.1.0.1) in
    let same = c.put_front-in_default.ensures ∙ restored n cells c.put_front.new.cells _ c.loop-word.cells c.requires.1 c.put_front.ensures c.loop-word.invariant.pairs in
    by_came (λ said. Follows cells (shown_keys n cells said) c.put_front-in_default.new.cells (Err Key)) ws s it came
    (by_next (λ more. Follows cells (shown_keys n cells (texts ws ++ more)) c.put_front-in_default.new.cells (Err Key)) it w t c.in-Some.ensures.steps
    (by_any (λ more. Follows cells (shown_keys n cells (texts ws ++ (w.now ∷ more))) c.put_front-in_default.new.cells (Err Key)) t text
    (λ more. rw (keys_none n (texts ws) w.now more (sym c.key_in.ensures ∙ c.in_default.is)) (refl, same))))

-- a word named a key
pub loop-word-preserved : goal.loop-word-preserved
loop-word-preserved c =
    let n = c.args.keys in let cells = c.args.cells.now in let ws = c.loop-word.yielded in let i = c.loop-word.invariant in
    let w = c.in-Some.word in let k = c.in-Some-key_in.k in
    let is : key_in n w.now ≡ Some k = sym c.key_in.ensures ∙ c.in-Some-key_in.is in
    let small : k < n = key_small n w.now k is in
    record {
      named = subst (λ v. are_keys n v ≡ true) (sym (texts_push ws w)) (keys_more n (texts ws) w.now k i.named is);
      shown = ap (λ v. slice_set v k 1) i.shown ∙ ap (with_key (with_keys n cells (texts ws))) (sym is) ∙ sym (shown_more n cells (texts ws) w.now) ∙ ap (with_keys n cells) (sym (texts_push ws w));
      pairs = drop-set-lt n c.loop-word.cells k 1 small ∙ i.pairs;
    }
