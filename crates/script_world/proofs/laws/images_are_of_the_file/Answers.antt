use Rattle.script_world.proofs.Images.{of_the_file}
use Rattle.script_world.proofs.laws.images_are_of_the_file.Goals as goal

pub returns : goal.returns
returns c = λ state starts users w line image shows may.
    of_the_file state starts users w shows image line may
