-- Numbers fall along uses: so what is listed with an interface, and the steps that it takes, are the same for every bound above its number. Serves InOrder, Steps.
pub mod Fuel
-- What is listed in order is what is reached: each once, behind what it uses, and used by a later one. Serves reach::interfaces_reached.
pub mod InOrder
-- A step of the walk keeps what is listed at the end, and leaves fewer steps. Serves reach::interfaces_reached, reach::take_step.
pub mod Steps
