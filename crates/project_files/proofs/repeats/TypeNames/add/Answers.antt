use Rattle.std.proofs.Common.{sym, ◌∙◌, refl}
use Rattle.project_files.specs.Kept.{class_of}
use Rattle.project_files.proofs.RepeatMore.{names_stay, names_more}
use Rattle.project_files.proofs.repeats.TypeNames.add.Goals as goal

pub returns-then-is_some-clause-named : goal.returns-then-is_some-clause-named
returns-then-is_some-clause-named c types named =
    names_stay types (class_of c.args.file c.args.class.now) c.args.self.now.paths c.args.self.now.repeat (sym c.is_some.ensures ∙ c.if-is_some.true) named

pub returns-in_default-clause-named : goal.returns-in_default-clause-named
returns-in_default-clause-named c types named =
    names_more types (class_of c.args.file c.args.class.now) c.args.self.now.paths c.insert.new.self c.args.self.now.repeat c.in_ok-name.name c.args.file.path (sym c.is_some.ensures ∙ c.if-is_some.false)
    c.in_ok-name.ensures.cases refl c.in_ok-first.ensures.updates (sym c.in_ok-first.ensures.old ∙ c.in_default.is) named
