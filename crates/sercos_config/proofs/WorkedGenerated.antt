-- Generated documents that the checker computes.
use Rattle.std.proofs.Common.{◌≡◌, length, refl}
use Rattle.sercos_config.specs.Generated.{generated_drive, generated_job, generated_fault, generated_ring, generated_cycles, generated}

-- one drive: 20 cycles, two for the drive, and three for each of 92 steps; and 100 more
cycles_of_1 : (generated 1).setup.cycles ≡ 398
unfolding generated generated_ring generated_cycles generated_drive
cycles_of_1 = refl

cycles_of_64 : (generated 64).setup.cycles ≡ 18102
unfolding generated generated_ring generated_cycles generated_drive
cycles_of_64 = refl

requests_of_64 : length (generated 64).jobs ≡ 64
unfolding generated generated_job
requests_of_64 = refl

faults_of_64 : length (generated 64).faults ≡ 64
unfolding generated generated_fault
faults_of_64 = refl
