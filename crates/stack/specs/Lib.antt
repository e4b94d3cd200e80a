-- What the stack's contracts cite beside the model.
pub mod GivenBack
pub mod PushPop
