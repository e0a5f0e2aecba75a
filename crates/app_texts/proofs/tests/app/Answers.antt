use Rattle.app_texts.proofs.Clean.{whole_name}
use Rattle.app_texts.proofs.tests.app.Goals as goal

pub of-requires : goal.of-requires
of-requires c = whole_name c.args.name.now c.requires
