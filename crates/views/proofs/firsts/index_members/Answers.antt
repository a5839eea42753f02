use Rattle.std.proofs.Common.{ℕ, List, ap, sym, ◌∙◌, arith}
use Rattle.std.specs.Str.{bytes_eq}
use Rattle.class_faces.specs.declared.face.MemberFace.{MemberFace}
use Rattle.views.proofs.Filling.{text_more}
use Rattle.views.specs.Indexes.{member_is}
use Rattle.views.proofs.firsts.index_members.Goals as goal

pub loop-at-preserved : goal.loop-at-preserved
loop-at-preserved c = record {
  within = let low = c.loop-at.invariant.within in omega arith;
  has = text_more c.loop-at.index c.insert.new.self member_is c.loop-at.at c.args.members.now c.index-members-at.result c.in_ok-key.key
      c.loop-at-test.true c.loop-at.invariant.within c.index-members-at.is (λ q. ap (λ (k : List ℕ). bytes_eq k q) (c.in_ok-key.ensures.cases ∙ ap (λ (x : MemberFace). x.key) (sym c.index-members-at.is)))
      c.loop-at.invariant.has c.in_ok-insert.ensures.updates;
}
