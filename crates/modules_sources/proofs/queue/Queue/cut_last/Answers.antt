-- The last is taken off, unless it is the parent.
use Rattle.std.proofs.Common.{arith, ◌≡◌, ◌++◌, ◌∷◌, ◌-◌, [], ap, sym, refl, true, false, ◌∙◌, length, take, Some}
use Rattle.std.specs.Prelude.{slice_get}
use Rattle.modules_sources.specs.Queue.{cut_to, is_parent}
use Rattle.modules_sources.proofs.Chains.{chain_shorter, compared, cut_here, cut_shorter, nothing_left, popped}
use Rattle.modules_sources.proofs.queue.Queue.cut_last.Goals as goal

pub returns-in_default-clause-done : goal.returns-in_default-clause-done
returns-in_default-clause-done c = λ e.
    nothing_left c.args.parent c.args.self.now.chain.items (c.in_default.ensures ∙ c.last.ensures.value ∙ ap (λ xs. slice_get xs (length xs - 1)) c.deref.ensures.value)

pub returns-then-eq-clause-done : goal.returns-then-eq-clause-done
returns-then-eq-clause-done c = λ e.
    let chain = c.args.self.now.chain.items in
    let there : Some c.in-Some.last ≡ slice_get c.args.self.now.chain.items (length c.args.self.now.chain.items - 1) = c.in-Some.ensures ∙ c.last.ensures.value ∙ ap (λ xs. slice_get xs (length xs - 1)) c.deref.ensures.value in
    let rest = take (length chain - 1) chain in
    let whole : chain ≡ rest ++ c.in-Some.last ∷ [] = popped chain rest c.in-Some.last refl there in
    let is : is_parent c.args.parent c.in-Some.last ≡ true = sym (compared c.args.parent c.in-Some.last) ∙ sym c.eq.ensures ∙ c.if-eq.true in
    whole ∙ sym (ap (cut_to c.args.parent) whole ∙ cut_here c.args.parent rest c.in-Some.last is)

pub returns-clause-cut : goal.returns-clause-cut
returns-clause-cut c =
    let there : Some c.in-Some.last ≡ slice_get c.args.self.now.chain.items (length c.args.self.now.chain.items - 1) = c.in-Some.ensures ∙ c.last.ensures.value ∙ ap (λ xs. slice_get xs (length xs - 1)) c.deref.ensures.value in
    let fewer : c.args.self.now.chain.len - 1 ≡ length c.args.self.now.chain.items - 1 = omega (arith, c.args.self.now.chain.ok.0) in
    let whole : c.args.self.now.chain.items ≡ c.pop.new.self.items ++ c.in-Some.last ∷ [] = popped c.args.self.now.chain.items c.pop.new.self.items c.in-Some.last (c.pop.ensures.rest ∙ ap (λ n. take n c.args.self.now.chain.items) fewer) there in
    let other : is_parent c.args.parent c.in-Some.last ≡ false = sym (compared c.args.parent c.in-Some.last) ∙ sym c.eq.ensures ∙ c.if-eq.false in
    sym (ap (cut_to c.args.parent) whole ∙ cut_shorter c.args.parent c.pop.new.self.items c.in-Some.last other)

pub returns-clause-keys : goal.returns-clause-keys
returns-clause-keys c = λ h.
    let there : Some c.in-Some.last ≡ slice_get c.args.self.now.chain.items (length c.args.self.now.chain.items - 1) = c.in-Some.ensures ∙ c.last.ensures.value ∙ ap (λ xs. slice_get xs (length xs - 1)) c.deref.ensures.value in
    let fewer : c.args.self.now.chain.len - 1 ≡ length c.args.self.now.chain.items - 1 = omega (arith, c.args.self.now.chain.ok.0) in
    let whole : c.args.self.now.chain.items ≡ c.pop.new.self.items ++ c.in-Some.last ∷ [] = popped c.args.self.now.chain.items c.pop.new.self.items c.in-Some.last (c.pop.ensures.rest ∙ ap (λ n. take n c.args.self.now.chain.items) fewer) there in
    chain_shorter c.args.self.now (record { pending = c.args.self.now.pending; chain = c.pop.new.self; keys = c.remove.new.self }) c.pop.new.self.items c.in-Some.last whole refl c.remove.ensures.updates h
