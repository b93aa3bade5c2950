use Rattle.std.proofs.Common.{rules, ap, FitsSigned, w64}
use mir.Facts.{to_z-of_z}
use Rattle.reply.specs.declared.Fields.TheVariants.{JobFields}
use Rattle.job.specs.Job.{fields_of}
use Rattle.job.proofs.fields_of.Goals as goal

pub returns : goal.returns
unfolding fields_of
returns c =
    let v = c.args.v in
    let f : FitsSigned w64 v.slack.amount = search rules in
    ap (λ amount. JobFields v.killed v.terminated amount v.slack.mode) (to_z-of_z {w = w64} f)
